use Rattle.std.proofs.Common.{List, subst, sym, take, ◌+◌}
use Rattle.cmh_controller3.specs.Controller.{Controller}
use Rattle.cmh_model3.specs.State.{empty_state}
use Rattle.cmh_audit3.specs.Standing.{StandIn}
use Rattle.cmh_audit3.proofs.Ends.{new_more}
use Rattle.cmh_audit3.proofs.verdict.new_controllers.Goals as goal

pub loop-segment-preserved : goal.loop-segment-preserved
loop-segment-preserved c =
    let t = c.args.topology.now in
    let gs = c.args.segments.now in
    let i = c.loop-segment.segment-index in
    subst (λ (cs : List Controller). StandIn t (λ s. empty_state) (take (i + 1) gs) cs) (sym c.in_ok-push.ensures.items)
    (new_more t gs i c.segment-item.result c.loop-segment.controllers.items _ c.loop-segment-test.true c.segment-item.is c.loop-segment.invariant c.in_ok-empty.ensures)
