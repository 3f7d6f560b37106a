use Rattle.std.proofs.Common.{◌||◌, true≢false, refl, sym, ap, ◌∙◌}
use Rattle.std.proofs.lemmas.Bool.{eq-eqb, ne_eqb}
use Rattle.cmh_bits.specs.Bits.{is_set}
use Rattle.cmh_dependents.proofs.reach.with_leaving.Goals as goal

pub returns-else-is_empty-clause-others : goal.returns-else-is_empty-clause-others
returns-else-is_empty-clause-others c = λ k other.
    c.with_bit.ensures k ∙ ap (λ b. b || is_set c.args.row k) (ne_eqb k c.args.place other)

pub returns-else-is_empty-clause-here : goal.returns-else-is_empty-clause-here
returns-else-is_empty-clause-here c = λ below none.
    absurd (true≢false (sym (c.with_bit.ensures c.args.place ∙ ap (λ b. b || is_set c.args.row c.args.place) (eq-eqb c.args.place c.args.place refl)) ∙ none))
