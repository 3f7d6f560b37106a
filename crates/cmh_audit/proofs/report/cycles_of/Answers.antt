use Rattle.std.proofs.Common.{◌+◌, ℕ, List, take, subst, sym}
use Rattle.cmh_audit.specs.Inner.FoundCycles.{AreFoundCycles}
use Rattle.cmh_audit.proofs.ReportLemmas.{found_more}
use Rattle.cmh_audit.proofs.report.cycles_of.Goals as goal

pub loop-process-preserved : goal.loop-process-preserved
loop-process-preserved c =
    let A : List (List ℕ) → Type 0 = λ cs. AreFoundCycles c.args.graph.now.waits.items (take (c.loop-process.process-index + 1) c.args.processes.now) cs in
    subst A (sym {A = List (List ℕ)} c.in_ok-push.ensures.items)
    (found_more c.args.graph.now.waits.items c.args.processes.now c.loop-process.cycles.items c.loop-process.process-index c.process-item.result c.in_ok-cycle_or_empty.field-0 c.loop-process-test.true c.process-item.is c.loop-process.invariant
    c.in_ok-cycle_or_empty.ensures)
