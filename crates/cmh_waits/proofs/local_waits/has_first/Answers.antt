use Rattle.std.proofs.Common.{◌||◌, ◌==◌, not, ℕ, List, [], ◌∙◌, sym, ap, length, get_or, arith}
use Rattle.std.proofs.lemmas.Bool.{eq-eqb, ne_eqb}
use Rattle.std.proofs.lemmas.List.{get_or_default}
use Rattle.cmh_waits.proofs.RowLemmas.{has_some_is, nobody_first}
use Rattle.cmh_waits.proofs.local_waits.has_first.Goals as goal

pub returns-then-rows-place-ne0 : goal.returns-then-rows-place-ne0
returns-then-rows-place-ne0 c =
    let at = c.in-Some.ensures in
    let row = get_or c.args.rows.now c.in-Some.place 0 in
    let list = length (get_or c.args.lists.now c.in-Some.place []) in
    let some = ne_eqb row 0 c.if-rows-place-ne0.true in
    ap not some
    ∙ sym (has_some_is c.args.members.now c.args.rows.now c.args.lists.now c.requires.ascending c.requires.rows c.in-Some.place c.args.first at.0 at.1 ∙ ap (λ b. not b || not (list == 0)) some)

pub returns-else-rows-place-ne0 : goal.returns-else-rows-place-ne0
returns-else-rows-place-ne0 c =
    let at = c.in-Some.ensures in
    let row = get_or c.args.rows.now c.in-Some.place 0 in
    let list = length (get_or c.args.lists.now c.in-Some.place []) in
    ap not c.is_empty.ensures
    ∙ ap (λ (xs : List ℕ). not (length xs == 0)) (c.as_slice.ensures.value ∙ c.index-lists-place.is ∙ get_or_default c.args.lists.now c.in-Some.place c.index-lists-place.result [] (omega (arith, at.0, c.requires.rows.lists_len)))
    ∙ sym (has_some_is c.args.members.now c.args.rows.now c.args.lists.now c.requires.ascending c.requires.rows c.in-Some.place c.args.first at.0 at.1 ∙ ap (λ b. not b || not (list == 0)) (eq-eqb row 0 c.if-rows-place-ne0.false))

pub returns-in-None : goal.returns-in-None
returns-in-None c = sym (nobody_first c.args.members.now c.args.rows.now c.args.lists.now c.requires.ascending c.requires.rows c.args.first c.in-None.ensures)
