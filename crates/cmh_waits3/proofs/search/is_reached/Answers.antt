use Rattle.std.proofs.Common.{sym, ap, subst, ◌∙◌}
use Rattle.std.specs.List.Sorted.{IsStrictlyIncreasing}
use Rattle.cmh_waits3.specs.Inner.Steps.{has_place}
use Rattle.cmh_waits3.proofs.Members.{same_place}
use Rattle.cmh_waits3.proofs.search.is_reached.Goals as goal

pub returns-in-Some : goal.returns-in-Some
returns-in-Some c =
    let ms = c.args.waits.now.members in
    let place = c.in-Some.place in
    let at = c.in-Some.ensures in
    let up = subst IsStrictlyIncreasing c.members.ensures.value c.members.ensures.ascending in (
      λ h. (place, at.0, at.1, sym c.has.ensures ∙ h),
      λ m. c.has.ensures ∙ ap (has_place c.args.reached.words) (sym (same_place ms up m.0 place m.1 at.0 (m.2 ∙ sym at.1))) ∙ m.3,
    )
