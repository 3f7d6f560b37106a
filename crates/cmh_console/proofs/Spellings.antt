-- Words that spell numbers.
use Rattle.std.proofs.Common.{◌≡◌, ◌≢◌, ◌≤◌, ◌^◌, ℕ, zero, suc, List, [], ◌∷◌, ◌++◌, Option, None, Some, length, refl, sym, ap, subst, ◌∙◌, arith, lit≤}
use Rattle.std.proofs.lemmas.List.{append-nil, append_assoc}
use Rattle.std.proofs.lemmas.Int.Digits.{digits_value-lt}
use Rattle.std.specs.Prelude.{SomeIff}
use Rattle.cmh_frames.specs.Number.{IsNumber}
use Rattle.cmh_console.specs.Words.{decimal}
use Rattle.cmh_console.specs.Front.{AreFewDigits, Begins, BeginsDigits, BeginsNone, Takes}
use Rattle.cmh_console.specs.Forms.{SpellNumbers}

-- ---- the numbers that words spell

small_power : (k : ℕ) → k ≤ 4 → 10 ^ k ≤ 10000
small_power zero h = lit≤ tt
small_power (suc zero) h = lit≤ tt
small_power (suc (suc zero)) h = lit≤ tt
small_power (suc (suc (suc zero))) h = lit≤ tt
small_power (suc (suc (suc (suc zero)))) h = lit≤ tt
small_power (suc (suc (suc (suc (suc k))))) h = absurd (omega arith)

below_limit : (word : List ℕ) → AreFewDigits word → decimal word ≤ 9999
below_limit word d =
    let below = digits_value-lt 10 word d.digits in
    let power = small_power (length word) d.few in
    omega (arith, below, power)

-- what a site or a process may have for its number is what the first word spells
pub takes_named : {words behind : List (List ℕ)} {n : ℕ} (named : Option ℕ) → BeginsDigits words n behind → SomeIff named (IsNumber n) n → Takes words behind named
takes_named (Some k) begins (is_number, same) = record {
  word = begins.word;
  words_are = begins.words_are;
  numeral = record { few = begins.digits.few; digits = begins.digits.digits; positive = subst (λ (m : ℕ). 1 ≤ m) begins.value is_number.least };
  value = sym begins.value ∙ sym same;
}
takes_named {n = n} None begins refused = λ number others other.
    let firsts = sym begins.words_are ∙ other.words_are in
    let same : begins.word ≡ other.word = cc in
    refused (record {
      least = subst (λ (m : ℕ). 1 ≤ m) (sym begins.value) (subst (λ (w : List ℕ). 1 ≤ decimal w) (sym same) other.numeral.positive);
      most = subst (λ (m : ℕ). m ≤ 9999) (sym begins.value) (below_limit begins.word begins.digits);
    })

-- what spells a number is of few digits
pub begins_none : {words : List (List ℕ)} → ((number : ℕ) (behind : List (List ℕ)) → BeginsDigits words number behind → ⊥) → BeginsNone words
begins_none none = λ number behind begins. none number behind (record {
  word = begins.word;
  words_are = begins.words_are;
  digits = record { few = begins.numeral.few; digits = begins.numeral.digits };
  value = sym begins.value;
})

-- words that spell no numbers are none
pub spell_nothing : (words : List (List ℕ)) (numbers : List ℕ) → SpellNumbers words numbers → numbers ≡ [] → words ≡ []
spell_nothing [] numbers spell none = refl
spell_nothing (w ∷ ws) [] spell none = absurd spell
spell_nothing (w ∷ ws) (n ∷ ns) spell none = cc

-- ---- word after word

-- the words before those that are left spell these numbers
pub record SpellSoFar (all left : List (List ℕ)) (numbers : List ℕ) : Type 0 where
  pub seen : List (List ℕ)
  pub split : all ≡ seen ++ left
  pub spell : SpellNumbers seen numbers

pub spell_begin : (all : List (List ℕ)) → SpellSoFar all all []
spell_begin all = record { seen = []; split = refl; spell = tt }

spell_join : (seen left : List (List ℕ)) (numbers more : List ℕ) → SpellNumbers seen numbers → SpellNumbers left more → SpellNumbers (seen ++ left) (numbers ++ more)
spell_join [] left [] more before spell = spell
spell_join [] left (m ∷ ms) more before spell = absurd before
spell_join (w ∷ ws) left [] more before spell = absurd before
spell_join (w ∷ ws) left (m ∷ ms) more before spell = (before.0, spell_join ws left ms more before.1 spell)

-- the next word spells the next number
pub spell_more : {all left behind : List (List ℕ)} {numbers : List ℕ} {n : ℕ} → SpellSoFar all left numbers → Begins left n behind → SpellSoFar all behind (numbers ++ n ∷ [])
spell_more {behind = behind} {numbers = numbers} {n = n} so_far next = record {
  seen = so_far.seen ++ next.word ∷ [];
  split = so_far.split ∙ ap (λ ws. so_far.seen ++ ws) next.words_are ∙ sym (append_assoc so_far.seen (next.word ∷ []) behind);
  spell = spell_join so_far.seen (next.word ∷ []) numbers (n ∷ []) so_far.spell ((next.numeral, next.value), tt);
}

-- what all of the words spell is spelled by those that are left, after these numbers
pub record SpellOn (left : List (List ℕ)) (numbers ns : List ℕ) : Type 0 where
  pub more : List ℕ
  pub numbers_are : ns ≡ numbers ++ more
  pub spell : SpellNumbers left more

spell_on : (seen left : List (List ℕ)) (numbers ns : List ℕ) → SpellNumbers seen numbers → SpellNumbers (seen ++ left) ns → SpellOn left numbers ns
spell_on [] left [] ns before spell = record { more = ns; numbers_are = refl; spell = spell }
spell_on [] left (m ∷ ms) ns before spell = absurd before
spell_on (w ∷ ws) left [] ns before spell = absurd before
spell_on (w ∷ ws) left (m ∷ ms) [] before spell = absurd spell
spell_on (w ∷ ws) left (m ∷ ms) (n ∷ ns) before spell =
    let on = spell_on ws left ms ns before.1 spell.1 in
    let heads : n ≡ m = sym spell.0.1 ∙ before.0.1 in
    record { more = on.more; numbers_are = λ i. heads i ∷ on.numbers_are i; spell = on.spell }

module _ {all left : List (List ℕ)} {numbers : List ℕ} (so_far : SpellSoFar all left numbers) where
  pub spelled_on : (ns : List ℕ) → SpellNumbers all ns → SpellOn left numbers ns
  spelled_on ns spell = spell_on so_far.seen left numbers ns so_far.spell (subst (λ (ws : List (List ℕ)). SpellNumbers ws ns) so_far.split spell)

  -- those that are left spell more
  pub spell_both : (more : List ℕ) → SpellNumbers left more → SpellNumbers all (numbers ++ more)
  spell_both more spell =
      subst (λ (ws : List (List ℕ)). SpellNumbers ws (numbers ++ more)) (sym so_far.split) (spell_join so_far.seen left numbers more so_far.spell spell)

  -- no word is left
  pub spell_all : left ≡ [] → SpellNumbers all numbers
  spell_all end =
      subst (λ (ws : List (List ℕ)). SpellNumbers ws numbers) (sym (so_far.split ∙ ap (λ ws. so_far.seen ++ ws) end ∙ append-nil so_far.seen)) so_far.spell

  -- a word is left, and spells no number
  pub spell_none : left ≢ [] → BeginsNone left → (ns : List ℕ) → SpellNumbers all ns → ⊥
  spell_none some none ns spell = go left some none on.more on.spell
    where
      on : SpellOn left numbers ns
      on = spelled_on ns spell

      go : (ws : List (List ℕ)) → ws ≢ [] → BeginsNone ws → (more : List ℕ) → SpellNumbers ws more → ⊥
      go [] some none more spell = some refl
      go (w ∷ ws) some none [] spell = spell
      go (w ∷ ws) some none (m ∷ more) spell = none m ws (record { word = w; words_are = refl; numeral = spell.0.0; value = spell.0.1 })
