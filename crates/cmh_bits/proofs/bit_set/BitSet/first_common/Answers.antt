use Rattle.std.proofs.Common.{◌≡◌, ◌≤◌, ◌*◌, ◌+◌, ◌∙◌, ℕ, List, length, get_or, true, inl, inr, ap, subst₂, arith}
use Rattle.std.specs.Int.Bits.{bit_and}
use Rattle.std.proofs.lemmas.Bool.{cases_eq}
use Rattle.cmh_bits.specs.Bits.{has_number}
use Rattle.cmh_bits.proofs.WordLemmas.{word_at, common_here, common_least, none_common}
use Rattle.cmh_bits.proofs.bit_set.BitSet.first_common.Goals as goal

pub loop-at-preserved : goal.loop-at-preserved
loop-at-preserved c = λ q below.
    let own = c.self.inside.words.ok.0 in
    let end = c.len-at-end.ensures in
    let inside = c.loop-at-test.true in
    let long = ap length c.self.view_is in
    let beside = ap length c.other.view_is in
    let words = c.requires.words in
    elim (cases_eq q c.loop-at.at) [
      | inl e ↦
          ap (λ i. bit_and (get_or c.self.inside.words.items i 0) (get_or c.other.inside.words.items i 0)) e
          ∙ ap (λ w. bit_and w (get_or c.other.inside.words.items c.loop-at.at 0)) (word_at c.self.inside.words.items c.loop-at.at c.index.result.now (omega (arith, own, end, inside)) c.index.ensures)
          ∙ ap (λ w. bit_and c.index.result.now w) (word_at c.other.inside.words.items c.loop-at.at c.index-in-loop-at.result.now (omega (arith, own, end, inside, long, beside, words)) c.index-in-loop-at.ensures)
          ∙ c.if-both-ne0.false
      | inr ne ↦ c.loop-at.invariant q (omega (arith, below, ne))
    ]

pub returns-then-both-ne0-clause-some : goal.returns-then-both-ne0-clause-some
returns-then-both-ne0-clause-some c =
    let own = c.self.inside.words.ok.0 in
    let end = c.len-at-end.ensures in
    let inside = c.loop-at-test.true in
    let long = ap length c.self.view_is in
    let beside = ap length c.other.view_is in
    let words = c.requires.words in
    let P : List ℕ → List ℕ → Type 0 = λ xs ys. (has_number xs (c.loop-at.at * 64 + c.lowest.result) ≡ true) × (has_number ys (c.loop-at.at * 64 + c.lowest.result) ≡ true) in
    subst₂ P c.self.view_is c.other.view_is
    (common_here c.self.inside.words.items c.other.inside.words.items c.loop-at.at c.loop-at.invariant c.index.result.now c.index-in-loop-at.result.now c.lowest.result
    (word_at c.self.inside.words.items c.loop-at.at c.index.result.now (omega (arith, own, end, inside)) c.index.ensures)
    (word_at c.other.inside.words.items c.loop-at.at c.index-in-loop-at.result.now (omega (arith, own, end, inside, long, beside, words)) c.index-in-loop-at.ensures)
    c.lowest.ensures.within c.lowest.ensures.set)

pub returns-then-both-ne0-clause-least : goal.returns-then-both-ne0-clause-least
returns-then-both-ne0-clause-least c =
    let own = c.self.inside.words.ok.0 in
    let end = c.len-at-end.ensures in
    let inside = c.loop-at-test.true in
    let long = ap length c.self.view_is in
    let beside = ap length c.other.view_is in
    let words = c.requires.words in
    let P : List ℕ → List ℕ → Type 0 = λ xs ys. (k : ℕ) → has_number xs k ≡ true → has_number ys k ≡ true → c.loop-at.at * 64 + c.lowest.result ≤ k in
    subst₂ P c.self.view_is c.other.view_is
    (common_least c.self.inside.words.items c.other.inside.words.items c.loop-at.at c.loop-at.invariant c.index.result.now c.index-in-loop-at.result.now c.lowest.result
    (word_at c.self.inside.words.items c.loop-at.at c.index.result.now (omega (arith, own, end, inside)) c.index.ensures)
    (word_at c.other.inside.words.items c.loop-at.at c.index-in-loop-at.result.now (omega (arith, own, end, inside, long, beside, words)) c.index-in-loop-at.ensures)
    c.lowest.ensures.within c.lowest.ensures.least)

pub returns-clause-none : goal.returns-clause-none
returns-clause-none c =
    let own = c.self.inside.words.ok.0 in
    let end = c.len-at-end.ensures in
    let past = c.loop-at-test.false in
    let P : List ℕ → List ℕ → Type 0 = λ xs ys. (k : ℕ) → has_number xs k ≡ true → has_number ys k ≡ true → ⊥ in
    subst₂ P c.self.view_is c.other.view_is
    (none_common c.self.inside.words.items c.other.inside.words.items c.loop-at.at c.loop-at.invariant (omega (arith, own, end, past)))
