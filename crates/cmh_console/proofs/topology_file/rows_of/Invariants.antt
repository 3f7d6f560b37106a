use Rattle.std.proofs.Common.{◌≡◌, drop}
use Rattle.serde_json.specs.View.{items_view}
use Rattle.cmh_console.specs.TopologyFile.{each_of, row_of}
use Rattle.cmh_console.proofs.JsonLemmas.{with_rest}
use Rattle.cmh_console.proofs.topology_file.rows_of.Given as goal

abbrev pub invariant-loop-site : goal.invariant-loop-site
invariant-loop-site l =
    with_rest l.rows.items (each_of row_of (items_view (drop l.site-index l.sites))) ≡ each_of row_of (items_view l.sites)
