use Rattle.std.proofs.Common.{◌≡◌, ◌<◌, ◌≤◌, ℕ, List, length, map, get_or}
use Rattle.cmh_cycles.specs.Graphs.{WaitsAt}
use Rattle.cmh_cycles.proofs.CycleLemmas.{IsWalking}
use Rattle.cmh_cycles.proofs.cycle.walk.Given as goal

abbrev pub invariant-loop-left : goal.invariant-loop-left
invariant-loop-left l = record {
  places : List ℕ;
  are : l.members.items ≡ map (λ a. get_or l.fn.graph.processes.items a 0) places;
  inside : l.at < length l.fn.graph.processes.items;
  few : l.left ≤ length l.fn.levels;
  walking : IsWalking (λ a b. WaitsAt l.fn.graph.processes.items l.fn.graph.waits.items a b) l.fn.from l.fn.levels places l.at l.left;
}

abbrev pub decreases-loop-left : goal.decreases-loop-left
decreases-loop-left l = l.left
