use Rattle.std.proofs.Common.{◌∙◌, List, sym, ap, subst}
use Rattle.cmh_controller3.specs.Inner.Marks.{IsPlaceFor}
use Rattle.cmh_controller3.specs.Tables.{stamp_in}
use Rattle.cmh_controller3.specs.declared.mark_row.Mark.{Mark}
use Rattle.cmh_controller3.proofs.Marks.{found, not_found}
use Rattle.cmh_controller3.proofs.mark_row.MarkRow.get.Goals as goal

pub returns-in-Ok : goal.returns-in-Ok
returns-in-Ok c =
    let ms = c.self.inside.marks.items in
    let at = rw c.deref.ensures.value at c.in-Ok.ensures.at in
    ap (λ (m : Mark). m.stamp) c.index.ensures
    ∙ sym (found ms c.in-Ok.place c.args.origin c.index.result.now c.self.invariant at.0 at.1)
    ∙ ap (λ (r : List Mark). stamp_in r c.args.origin) c.self.view_is

pub returns-in-Err : goal.returns-in-Err
returns-in-Err c =
    let ms = c.self.inside.marks.items in
    let place = subst (λ (r : List Mark). IsPlaceFor c.args.origin c.in-Err.field-0 r) c.deref.ensures.value c.in-Err.ensures.before.1 in
    c.new.ensures ∙ sym (not_found ms c.in-Err.field-0 c.args.origin place) ∙ ap (λ (r : List Mark). stamp_in r c.args.origin) c.self.view_is
