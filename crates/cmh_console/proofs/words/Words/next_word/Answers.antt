use Rattle.std.proofs.Common.{◌≡◌, ◌<◌, ℕ, suc, zero, false, ◌==◌, ◌∷◌, length, take, sym, ap, subst, ◌∙◌, arith, true≢false}
use Rattle.cmh_console.specs.Words.{words_of}
use Rattle.cmh_console.proofs.WordSplits.{words_of-word}
use Rattle.cmh_console.proofs.words.Words.next_word.Goals as goal
use Rattle.cmh_console.proofs.words.Words.next_word.Goals.{then-is_empty, else-is_empty}

some_of : (n : ℕ) → (n == 0) ≡ false → 0 < n
some_of zero h = absurd (true≢false h)
some_of (suc n) h = omega arith

pub returns-clause-word : goal.returns-clause-word
returns-clause-word c = elim c.if-is_empty.branch [
  | then-is_empty w ↦ rw w.result-is tt
  | else-is_empty w ↦
      let line = c.self.inside.rest.now in
      let n = c.word_len.result in
      let some : 0 < length (take n line) =
      subst (λ word. 0 < length word) c.split_at.ensures.front (some_of (length c.split_at.result.0.now) (sym c.is_empty.ensures ∙ w.if-is_empty.false)) in
      let e = words_of-word line n c.word_len.ensures.within c.word_len.ensures.before c.word_len.ensures.space some in
      rw w.result-is (sym c.self.view_is ∙ e
      ∙ (λ i. sym c.split_at.ensures.front i ∷ (ap words_of (sym c.split_at.ensures.back) ∙ sym c.without_spaces-self-inside.ensures.words) i))
]
