use Rattle.std.proofs.Common.{◌≡◌, drop}
use Rattle.serde_json.specs.View.{items_view}
use Rattle.cmh_console.specs.TopologyFile.{each_of, port_in}
use Rattle.cmh_console.proofs.JsonLemmas.{with_rest}
use Rattle.cmh_console.proofs.topology_file.ports_of_all.Given as goal

abbrev pub invariant-loop-site : goal.invariant-loop-site
invariant-loop-site l =
    with_rest l.ports.items (each_of port_in (items_view (drop l.site-index l.sites))) ≡ each_of port_in (items_view l.sites)
