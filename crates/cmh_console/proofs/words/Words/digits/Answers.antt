use Rattle.std.proofs.Common.{sym, ap, ◌∙◌, inl, inr}
use Rattle.cmh_console.specs.Words.{words_of}
use Rattle.cmh_console.proofs.Numerals.{begins_few, no_few_digits}
use Rattle.cmh_console.proofs.words.Words.digits.Goals as goal
use Rattle.cmh_console.proofs.words.Words.digits.Goals.{then-numeral-eq0-via-then-numeral-eq0, then-numeral-eq0-via-else-numeral-eq0+then-goes_on}

pub returns-then-numeral-eq0 : goal.returns-then-numeral-eq0
returns-then-numeral-eq0 c = no_few_digits c.self.inside.rest.now _ _ c.first_numeral-numeral.ensures c.self.invariant (elim c.then-numeral-eq0.branch [
  | then-numeral-eq0-via-then-numeral-eq0 w ↦ inl w.if-numeral-eq0.true
  | then-numeral-eq0-via-else-numeral-eq0+then-goes_on w ↦ inr (w.goes_on.ensures.yes w.if-goes_on.true)
]) _ (sym c.self.view_is)

pub returns : goal.returns
returns c = begins_few c.self.inside.rest.now _ _ c.first_numeral-numeral.ensures c.if-numeral-eq0.false (c.goes_on.ensures.no c.if-goes_on.false) _ _
    (sym c.self.view_is) (c.without_spaces-self-inside.ensures.words ∙ ap words_of c.split_at.ensures.back)
