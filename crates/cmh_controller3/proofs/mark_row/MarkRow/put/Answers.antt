use Rattle.std.proofs.Common.{◌≡◌, ◌∙◌, ◌==◌, if◌then◌else◌, List, sym, ap, subst, rules}
use Rattle.std.specs.List.{insert}
use Rattle.cmh_controller3.specs.Inner.Marks.{IsPlaceFor}
use Rattle.cmh_controller3.specs.Tables.{stamp_in}
use Rattle.cmh_controller3.specs.declared.mark_row.Mark.{Mark}
use Rattle.cmh_controller3.proofs.Marks.{IsMarked, insert_at_place, set_at_place}
use Rattle.cmh_controller3.proofs.mark_row.MarkRow.put.Goals as goal

pub invariant_of-self : goal.invariant_of-self
invariant_of-self c =
    let at = rw c.deref.ensures.value at c.in-Ok.ensures.at in
    (set_at_place c.args.origin c.args.stamp c.self.inside.marks.items c.in-Ok.place c.self.invariant at.0 at.1).ascending

pub returns-in-Ok-clause-ok : goal.returns-in-Ok-clause-ok
returns-in-Ok-clause-ok c = λ i.
    let at = rw c.deref.ensures.value at c.in-Ok.ensures.at in
    (set_at_place c.args.origin c.args.stamp c.self.inside.marks.items c.in-Ok.place c.self.invariant at.0 at.1).stamps i
    ∙ ap (λ (r : List Mark). if i == c.args.origin then c.args.stamp else stamp_in r i) c.self.view_is

pub invariant_of-self-in-Continue-1 : goal.invariant_of-self-in-Continue-1
invariant_of-self-in-Continue-1 c =
    let ms = c.self.inside.marks.items in
    let m : Mark = record { origin = c.args.origin; stamp = c.args.stamp } in
    let place : IsPlaceFor c.args.origin c.in-Err.place ms = subst (λ (r : List Mark). IsPlaceFor c.args.origin c.in-Err.place r) c.deref.ensures.value c.in-Err.ensures.before.1 in
    let are : c.insert.new.self.items ≡ insert ms c.in-Err.place m = search rules in
    (subst (λ (r : List Mark). IsMarked c.args.origin c.args.stamp ms r) (sym are) (insert_at_place c.args.origin c.args.stamp ms c.in-Err.place c.self.invariant place)).ascending

pub returns-in_ok-insert-in-Err-clause-ok : goal.returns-in_ok-insert-in-Err-clause-ok
returns-in_ok-insert-in-Err-clause-ok c = λ i.
    let ms = c.self.inside.marks.items in
    let m : Mark = record { origin = c.args.origin; stamp = c.args.stamp } in
    let place : IsPlaceFor c.args.origin c.in-Err.place ms = subst (λ (r : List Mark). IsPlaceFor c.args.origin c.in-Err.place r) c.deref.ensures.value c.in-Err.ensures.before.1 in
    let are : c.insert.new.self.items ≡ insert ms c.in-Err.place m = search rules in
    (subst (λ (r : List Mark). IsMarked c.args.origin c.args.stamp ms r) (sym are) (insert_at_place c.args.origin c.args.stamp ms c.in-Err.place c.self.invariant place)).stamps i
    ∙ ap (λ (r : List Mark). if i == c.args.origin then c.args.stamp else stamp_in r i) c.self.view_is
