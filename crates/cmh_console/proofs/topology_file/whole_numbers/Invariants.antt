use Rattle.std.proofs.Common.{◌≡◌, drop}
use Rattle.serde_json.specs.View.{items_view}
use Rattle.cmh_console.specs.TopologyFile.{each_of, whole_of}
use Rattle.cmh_console.proofs.JsonLemmas.{with_rest}
use Rattle.cmh_console.proofs.topology_file.whole_numbers.Given as goal

abbrev pub invariant-loop-value : goal.invariant-loop-value
invariant-loop-value l =
    with_rest l.numbers.items (each_of whole_of (items_view (drop l.value-index l.values))) ≡ each_of whole_of (items_view l.values)
