use Rattle.std.proofs.Common.{◌∷◌, sym, ap, subst, ◌∙◌}
use Rattle.cmh_console.specs.Front.{Begins}
use Rattle.cmh_cluster3.proofs.Ordering.{more_behind_link, no_from, no_link_word, no_to, other_link_word}
use Rattle.cmh_cluster3.proofs.line.link_order_in.Goals as goal

pub returns-in_err-name : goal.returns-in_err-name
returns-in_err-name c = rw c.from_residual.ensures (λ order from to names.
    no_link_word _ _ _ _ names (sym c.new-words.ensures ∙ c.in_err-name.ensures.none))

pub returns-in_err-order : goal.returns-in_err-order
returns-in_err-order c = rw c.from_residual-in_err-order.ensures (λ order from to names.
    other_link_word _ _ _ _ names _ _ (sym c.new-words.ensures ∙ c.in_ok-name.ensures.word) (c.in_err-order.ensures order))

pub returns-in_err-from : goal.returns-in_err-from
returns-in_err-from c = rw c.from_residual-in_err-from.ensures (λ order from to names.
    no_from _ _ _ _ names _ _ (sym c.new-words.ensures ∙ c.in_ok-name.ensures.word) c.in_err-from.ensures)

pub returns-in_err-to : goal.returns-in_err-to
returns-in_err-to c = rw c.from_residual-in_err-to.ensures (λ order from to names.
    no_to _ _ _ _ names _ _ (sym c.new-words.ensures ∙ c.in_ok-name.ensures.word) _ _ c.in_ok-from.ensures c.in_err-to.ensures)

pub returns-in_err-end : goal.returns-in_err-end
returns-in_err-end c = rw c.from_residual-in_err-end.ensures (λ order from to names.
    more_behind_link _ _ _ _ names _ _ (sym c.new-words.ensures ∙ c.in_ok-name.ensures.word) _ _ c.in_ok-from.ensures _ _ c.in_ok-to.ensures c.in_err-end.ensures.none)

pub returns : goal.returns
returns c = record {
  behind = c.next_word.new.self;
  words_are = (sym c.new-words.ensures ∙ c.in_ok-name.ensures.word) ∙ ap (λ word. word ∷ c.next_word.new.self) c.in_ok-order.ensures;
  last = c.site.new.self;
  begins = c.in_ok-from.ensures;
  ends = subst (Begins c.site.new.self c.in_ok-to.to) c.in_ok-end.ensures.some c.in_ok-to.ensures;
}
