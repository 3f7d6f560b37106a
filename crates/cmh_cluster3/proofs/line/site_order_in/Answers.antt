use Rattle.std.proofs.Common.{◌∷◌, sym, ap, subst, ◌∙◌}
use Rattle.cmh_console.specs.Front.{Begins}
use Rattle.cmh_cluster3.proofs.Ordering.{more_behind, no_number, no_word, other_word}
use Rattle.cmh_cluster3.proofs.line.site_order_in.Goals as goal

pub returns-in_err-name : goal.returns-in_err-name
returns-in_err-name c = rw c.from_residual.ensures (λ order site names.
    no_word _ _ _ names (sym c.new-words.ensures ∙ c.in_err-name.ensures.none))

pub returns-in_err-order : goal.returns-in_err-order
returns-in_err-order c = rw c.from_residual-in_err-order.ensures (λ order site names.
    other_word _ _ _ names _ _ (sym c.new-words.ensures ∙ c.in_ok-name.ensures.word) (c.in_err-order.ensures order))

pub returns-in_err-site : goal.returns-in_err-site
returns-in_err-site c = rw c.from_residual-in_err-site.ensures (λ order site names.
    no_number _ _ _ names _ _ (sym c.new-words.ensures ∙ c.in_ok-name.ensures.word) c.in_err-site.ensures)

pub returns-in_err-end : goal.returns-in_err-end
returns-in_err-end c = rw c.from_residual-in_err-end.ensures (λ order site names.
    more_behind _ _ _ names _ _ (sym c.new-words.ensures ∙ c.in_ok-name.ensures.word) _ _ c.in_ok-site.ensures c.in_err-end.ensures.none)

pub returns : goal.returns
returns c = record {
  behind = c.next_word.new.self;
  words_are = (sym c.new-words.ensures ∙ c.in_ok-name.ensures.word) ∙ ap (λ word. word ∷ c.next_word.new.self) c.in_ok-order.ensures;
  begins = subst (Begins c.next_word.new.self c.in_ok-site.site) c.in_ok-end.ensures.some c.in_ok-site.ensures;
}
