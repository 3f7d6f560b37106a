use Rattle.std.proofs.Common.{◌≡◌, drop}
use Rattle.cmh_console.specs.TopologyParts.{has_repeats}
use Rattle.cmh_console.proofs.topology_file.has_repeats.Given as goal

abbrev pub invariant-loop-i : goal.invariant-loop-i
invariant-loop-i l = has_repeats (drop l.i l.ports) ≡ has_repeats l.ports
