use Rattle.std.proofs.Common.{◌≡◌, ◌≤◌, ◌∙◌, ℕ, List, length, get_or, sym, ap, rules, true≢false}
use Rattle.std.proofs.lemmas.List.{get_or_default}
use Rattle.std.proofs.lemmas.Bool.{eq-eqb}
use Rattle.cmh_model3.specs.Lists.{in_list}
use Rattle.cmh_waits3.proofs.Placed.{none_past, none_there}
use Rattle.cmh_waits3.proofs.member_table.MemberTable.place_of.Goals as goal
use Rattle.cmh_waits3.proofs.member_table.MemberTable.place_of.Goals.{else-place-len-via-then-place-len+else-eq, else-place-len-via-else-place-len}

pub returns-in_default : goal.returns-in_default
returns-in_default c =
    let ms = c.self.inside.processes.items in
    let places = c.self.inside.places.items in
    let past : length places ≤ c.args.process = search rules in
    ap (λ (xs : List ℕ). in_list xs c.args.process) (sym c.self.view_is) ∙ none_past ms places c.self.invariant c.args.process past

pub returns-else-place-len : goal.returns-else-place-len
returns-else-place-len c =
    let ms = c.self.inside.processes.items in
    let places = c.self.inside.places.items in
    let told : c.in-Some.place.now ≡ get_or places c.args.process 0 = search rules in
    ap (λ (xs : List ℕ). in_list xs c.args.process) (sym c.self.view_is)
    ∙ none_there ms places c.self.invariant c.args.process c.in-Some.place.now told (elim c.else-place-len.branch [
      | else-place-len-via-then-place-len+else-eq w ↦ λ inside e.
          let same = w.index.ensures ∙ get_or_default ms c.in-Some.place.now w.index.result.now 0 inside ∙ e in
          true≢false (sym (eq-eqb w.index.result.now c.args.process same) ∙ sym w.eq.ensures ∙ w.if-eq.false)
      | else-place-len-via-else-place-len w ↦ λ inside e. search rules
    ])
