use Rattle.std.proofs.Common.{◌∙◌, ◌==◌, if◌then◌else◌, List, ap, subst}
use Rattle.cmh_controller3.specs.Inner.Marks.{IsPlaceFor}
use Rattle.cmh_controller3.specs.Tables.{stamp_in}
use Rattle.cmh_controller3.specs.declared.mark_row.Mark.{Mark}
use Rattle.cmh_controller3.proofs.Marks.{none_back, set_at_place}
use Rattle.cmh_controller3.proofs.mark_row.MarkRow.put_back.Goals as goal

pub invariant_of-self : goal.invariant_of-self
invariant_of-self c =
    let at = rw c.deref.ensures.value at c.in-Ok.ensures.at in
    (set_at_place c.args.origin c.args.stamp c.self.inside.marks.items c.in-Ok.place c.self.invariant at.0 at.1).ascending

pub returns-in-Ok : goal.returns-in-Ok
returns-in-Ok c = λ i.
    let at = rw c.deref.ensures.value at c.in-Ok.ensures.at in
    (set_at_place c.args.origin c.args.stamp c.self.inside.marks.items c.in-Ok.place c.self.invariant at.0 at.1).stamps i
    ∙ ap (λ (r : List Mark). if i == c.args.origin then c.args.stamp else stamp_in r i) c.self.view_is

pub returns-in_default : goal.returns-in_default
returns-in_default c =
    let place = subst (λ (r : List Mark). IsPlaceFor c.args.origin c.in_default.field-0 r) (c.deref.ensures.value ∙ c.self.view_is) c.in_default.ensures.before.1 in
    none_back c.args.self.now c.in_default.field-0 c.args.origin c.args.stamp place c.requires
