use Rattle.std.proofs.Common.{take}
use Rattle.cmh_audit.specs.Inner.FoundCycles.{AreFoundCycles}
use Rattle.cmh_audit.proofs.report.cycles_of.Given as goal

abbrev pub invariant-loop-process : goal.invariant-loop-process
invariant-loop-process l = AreFoundCycles l.graph.waits.items (take l.process-index l.processes) l.cycles.items
