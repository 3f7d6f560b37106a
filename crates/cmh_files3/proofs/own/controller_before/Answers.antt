use Rattle.std.proofs.Common.{map, take_all, subst}
use Rattle.cmh_model3.specs.State.{empty_state}
use Rattle.cmh_controller3.specs.Replays.{StandsAfter}
use Rattle.cmh_segment3.specs.Entries.{step_of}
use Rattle.cmh_audit3.proofs.Lengths.{begins}
use Rattle.cmh_files3.proofs.OwnLemmas.{steps_on}
use Rattle.cmh_files3.proofs.own.controller_before.Goals as goal

pub loop-entry-init : goal.loop-entry-init
loop-entry-init c =
    let new = c.in_ok-controller.ensures in
    begins c.args.topology.now c.args.site empty_state c.args.entries.now c.in_ok-controller.controller (record { topology = new.topology; site = new.site; state = new.state })

pub loop-entry-preserved : goal.loop-entry-preserved
loop-entry-preserved c =
    let took = c.in_ok-step.ensures in
    steps_on c.args.topology.now c.args.site c.args.entries.now c.loop-entry.entry-index c.entry-item.result c.loop-entry.controller c.loop-entry-test.true c.entry-item.is c.loop-entry.invariant c.requires
    _ took.0 took.1

pub returns : goal.returns
returns c =
    let at = c.loop-entry.invariant.stands in
    subst (λ es. StandsAfter c.args.topology.now c.args.site (map step_of es) c.loop-entry.controller)
    (take_all c.loop-entry.entry-index c.args.entries.now c.loop-entry-test.false) (record { topology = at.topology; site = at.site; state = at.state })
