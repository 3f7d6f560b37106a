use Rattle.std.proofs.Common.{◌+◌, List, subst, sym, take}
use Rattle.cmh_controller3.specs.Controller.{Controller}
use Rattle.cmh_history3.specs.Inner.Leading.{AreRestored}
use Rattle.cmh_history3.proofs.Leading.{restored_more}
use Rattle.cmh_history3.proofs.chain.controllers_of.Goals as goal

pub loop-segment-preserved : goal.loop-segment-preserved
loop-segment-preserved c =
    let t = c.args.topology.now in
    let gs = c.args.segments.now in
    let i = c.loop-segment.segment-index in
    subst (λ (cs : List Controller). AreRestored t (take (i + 1) gs) cs) (sym c.in-Ok-push.ensures.items)
    (restored_more t gs i c.segment-item.result c.loop-segment.controllers.items c.in-Ok.controller c.loop-segment-test.true c.segment-item.is c.loop-segment.invariant c.in-Ok.ensures.ok)
