use Rattle.std.proofs.Common.{◌≡◌, ◌∙◌, ◌<◌, List, length, get_or, subst}
use Rattle.cmh_waits3.specs.declared.wait.Wait.{Wait}
use Rattle.cmh_waits3.specs.Inner.Inserting.{IsPlaceFor}
use Rattle.cmh_waits3.specs.Rows.{targets_of}
use Rattle.cmh_waits3.proofs.Placing.{none_taken}
use Rattle.cmh_waits3.proofs.Rows.{taken}
use Rattle.cmh_waits3.proofs.wait_list.remove.Goals as goal

pub returns-in-Ok : goal.returns-in-Ok
returns-in-Ok c =
    let ws = c.args.waits.now.items in
    let at : (c.in-Ok.place < length ws) × (get_or (targets_of ws) c.in-Ok.place 0 ≡ c.args.target) =
    subst (λ (xs : List Wait). (c.in-Ok.place < length xs) × (get_or (targets_of xs) c.in-Ok.place 0 ≡ c.args.target)) c.deref.ensures.value c.in-Ok.ensures.at in
    c.remove.ensures.items ∙ taken ws c.in-Ok.place c.args.target c.requires at.0 at.1

pub returns-in_default : goal.returns-in_default
returns-in_default c =
    let ws = c.args.waits.now.items in
    none_taken ws c.in_default.field-0 c.args.target (subst (λ (xs : List Wait). IsPlaceFor c.args.target c.in_default.field-0 xs) c.deref.ensures.value c.in_default.ensures.before.1)
