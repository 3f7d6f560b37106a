use Rattle.std.proofs.Common.{◌+◌, ◌/◌, length}
use Rattle.cmh_cycles.specs.Graphs.{WaitsAt}
use Rattle.cmh_cycles.proofs.LevelLemmas.{IsSearched, IsMet, lacking}
use Rattle.cmh_cycles.proofs.cycle.levels_to.Given as goal

abbrev pub invariant-loop-met : goal.invariant-loop-met
invariant-loop-met l = record {
  searched : IsSearched (λ a b. WaitsAt l.fn.graph.processes.items l.fn.graph.waits.items a b) l.fn.to (length l.fn.graph.processes.items) (length l.fn.graph.processes.items / 64 + 1) l.levels.items l.seen;
  told : IsMet (λ a b. WaitsAt l.fn.graph.processes.items l.fn.graph.waits.items a b) l.fn.to l.levels.items l.met;
}

abbrev pub decreases-loop-met : goal.decreases-loop-met
decreases-loop-met l = lacking (length l.fn.graph.processes.items) l.seen
