use Rattle.std.proofs.Common.{get_or, sym, ap, subst, ◌∙◌}
use Rattle.std.specs.List.Sorted.{IsStrictlyIncreasing}
use Rattle.std.proofs.lemmas.Bool.{eqb-true, eq-eqb}
use Rattle.cmh_waits.proofs.RowLemmas.{same_place}
use Rattle.cmh_bits.specs.Bits.{is_set}
use Rattle.cmh_dependents.proofs.reach.Reach.contains.Goals as goal

pub returns-in-Some : goal.returns-in-Some
returns-in-Some c =
    let members = c.args.waits.now.members in
    let place = c.in-Some.place in
    let at = c.in-Some.ensures.place in
    let up = subst IsStrictlyIncreasing c.members.ensures.value c.members.ensures.ascending in (
      λ h. (place, at.0, at.1, sym c.has.ensures ∙ h),
      λ m.
          let same = eqb-true m.0 place (sym (same_place members up m.0 place m.1 at.0) ∙ eq-eqb (get_or members m.0 0) (get_or members place 0) (m.2 ∙ sym at.1)) in
          c.has.ensures ∙ ap (is_set c.args.self.places) (sym same) ∙ m.3,
    )
