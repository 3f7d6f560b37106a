use Rattle.std.proofs.Common.{take}
use Rattle.cmh_cycles.proofs.GraphLemmas.{AreTables}
use Rattle.cmh_cycles.proofs.graph.Graph.new.Given as goal

-- the tables have the waits so far
abbrev pub invariant-loop-asker : goal.invariant-loop-asker
invariant-loop-asker l = AreTables l.processes.items (take l.asker-index l.fn.waits.items) l.holders.items l.askers.items
