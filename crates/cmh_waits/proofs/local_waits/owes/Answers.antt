use Rattle.std.proofs.Common.{◌∙◌, sym, ap, List, [], ℕ, arith}
use Rattle.std.proofs.lemmas.List.{get_or_default}
use Rattle.cmh_waits.specs.Rows.{is_in}
use Rattle.cmh_waits.proofs.RowLemmas.{has_bit_at, has_listed, has_none}
use Rattle.cmh_waits.proofs.local_waits.owes.Goals as goal

pub returns-in-Some-place_of : goal.returns-in-Some-place_of
returns-in-Some-place_of c =
    let at = c.in-Some.ensures in
    let to = c.in-Some-place_of.ensures in
    c.has_bit.ensures ∙ sym (has_bit_at c.args.members.now c.args.rows.now c.args.sets.now c.requires.ascending c.requires.rows c.in-Some.second c.in-Some-place_of.first c.args.holder c.args.asker at.0 to.0 at.1 to.1)

pub returns-in-None-place_of : goal.returns-in-None-place_of
returns-in-None-place_of c =
    let at = c.in-Some.ensures in
    c.contains.ensures
    ∙ ap (λ (xs : List ℕ). is_in xs c.args.asker) (c.index-sets-second.is ∙ get_or_default c.args.sets.now c.in-Some.second c.index-sets-second.result [] (omega (arith, at.0, c.requires.rows.lists_len)))
    ∙ sym (has_listed c.args.members.now c.args.rows.now c.args.sets.now c.requires.ascending c.requires.rows c.in-Some.second c.args.holder c.args.asker at.0 at.1 c.in-None-place_of.ensures)

pub returns-in-None : goal.returns-in-None
returns-in-None c = sym (has_none c.args.members.now c.args.rows.now c.args.sets.now c.requires.ascending c.requires.rows c.args.holder c.args.asker c.in-None.ensures)
