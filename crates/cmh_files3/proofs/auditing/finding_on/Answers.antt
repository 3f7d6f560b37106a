use Rattle.std.proofs.Common.{List, sym, subst, subst₂}
use Rattle.cmh_controller3.specs.Controller.{Controller}
use Rattle.cmh_segment3.specs.declared.segment.Segment.{Segment}
use Rattle.cmh_audit3.specs.Verdicts.{IsOrderOf, StandAtEnds}
use Rattle.cmh_files3.proofs.FindingLemmas.{controllers_of, order_of}
use Rattle.cmh_files3.proofs.auditing.finding_on.Goals as goal

pub told_of_run-requires-clause-order : goal.told_of_run-requires-clause-order
told_of_run-requires-clause-order c =
    let t = c.args.world.now in
    subst (λ (gs : List Segment). IsOrderOf t gs c.in-Accepted.order) c.deref.ensures.value
    (order_of t c.deref.result.now c.in-Ok.verdict c.in-Accepted.order c.in-Accepted.controllers c.in-Accepted.is c.in-Ok.ensures.order)

pub told_of_run-requires-clause-stand : goal.told_of_run-requires-clause-stand
told_of_run-requires-clause-stand c =
    let t = c.args.world.now in
    subst₂ (λ (gs : List Segment) (cs : List Controller). StandAtEnds t gs cs) c.deref.ensures.value (sym c.deref-in-Accepted.ensures.value)
    (controllers_of t c.deref.result.now c.in-Ok.verdict c.in-Accepted.order c.in-Accepted.controllers c.in-Accepted.is c.in-Ok.ensures.controllers)
