use Rattle.std.proofs.Common.{sym, subst}
use Rattle.cmh_frames.specs.Topology.{Topology}
use Rattle.cmh_play.specs.Held.{Held, AreReady}
use Rattle.cmh_play.proofs.Fresh.{shows_new}
use Rattle.cmh_play.proofs.Readiness.{ready_new}
use Rattle.cmh_play.proofs.playground.Playground.new.Goals as goal

pub invariant_of-result : goal.invariant_of-result
invariant_of-result c =
    let P : Topology → Type 0 = λ t. AreReady t c.in_ok-new_controllers.field-0.items c.in_ok-new.field-0 in
    subst P (sym c.in_ok-copy.ensures)
    (ready_new c.args.topology.now c.args.keeps_journals c.in_ok-new_controllers.field-0.items c.in_ok-new.field-0 c.in_ok-new_controllers.ensures.new c.in_ok-new.ensures)

pub returns : goal.returns
returns c =
    let held : Held = record { topology = c.in_ok-copy.field-0; controllers = c.in_ok-new_controllers.field-0.items; history = c.in_ok-new.field-0; links = c.new-2.result } in
    shows_new c.args.topology.now c.args.keeps_journals held c.in_ok-copy.ensures c.in_ok-new_controllers.ensures.new c.new_controllers.ensures.ascending c.in_ok-new.ensures c.new-2.ensures
