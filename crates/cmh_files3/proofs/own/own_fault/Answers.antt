use Rattle.std.proofs.Common.{sym, subst₂}
use Rattle.cmh_controller3.specs.Controller.{state_of}
use Rattle.cmh_files3.specs.Reasons.{Makes}
use Rattle.cmh_files3.proofs.OwnLemmas.{made_by}
use Rattle.cmh_files3.proofs.own.own_fault.Goals as goal

pub returns-in-Ok : goal.returns-in-Ok
returns-in-Ok c =
    let old = c.args.controller.now in
    let made = made_by old _ c.args.entry.now.event c.in-Ok.outcome c.in-Ok.ensures.ok in
    c.wrong_record.ensures old.topology old.site (state_of old)
    (subst₂ (λ sent declared. Makes old.topology old.site (state_of old) c.args.entry.now.event sent declared) (sym c.as_slice.ensures) (sym c.recorded.ensures) made)
