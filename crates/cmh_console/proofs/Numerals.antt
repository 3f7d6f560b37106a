-- What has been read of a numeral.
use Rattle.std.proofs.Common.{◌≡◌, ◌≢◌, ◌≤◌, ◌<◌, ◌+◌, ◌*◌, ◌⊎◌, ℕ, List, take, drop, length, get_or, slice_index, ◌∙◌, ap, sym, subst, suc, zero, inl, inr, [], ◌∷◌, arith, length-take-le}
use Rattle.std.specs.Char.{digit_value}
use Rattle.std.specs.Str.Parse.{digits_value, AllDigits}
use Rattle.std.proofs.lemmas.List.{get_or-take, take_all}
use Rattle.std.proofs.lemmas.Bool.Decides.{eqb_tells, leb_tells}
use Rattle.cmh_console.specs.Words.{words_of, IsNumeral, decimal}
use Rattle.cmh_console.specs.Front.{BeginsDigits, IsFirstNumeral}
use Rattle.cmh_console.proofs.WordSplits.{words_of-word}
use Rattle.std.proofs.lemmas.Int.Digits.{digits_value_more, digits_more}

-- the first i bytes are digits, and spell the number
pub record Reads (word : List ℕ) (i number : ℕ) : Type 0 where
  pub digits : AllDigits 10 (take i word)
  pub value : number ≡ digits_value 10 (take i word)
  pub none : i ≤ 0 → number ≤ 0
  pub one : i ≤ 1 → number ≤ 9
  pub two : i ≤ 2 → number ≤ 99
  pub three : i ≤ 3 → number ≤ 999
  pub four : i ≤ 4 → number ≤ 9999

-- one digit more
pub reads_more : (word : List ℕ) (i number digit : ℕ) → i < length word → Reads word i number → digit_value (get_or word i 0) < 10 → digit ≡ digit_value (get_or word i 0)
    → Reads word (i + 1) (number * 10 + digit)
reads_more word i number digit within r small is = record {
  digits = digits_more 10 word i within r.digits small;
  value = ap (λ n. n * 10 + digit) r.value ∙ ap (λ d. digits_value 10 (take i word) * 10 + d) is ∙ sym (digits_value_more 10 word i within);
  none = λ h. absurd (omega arith);
  one = λ h. let n = r.none (omega arith) in omega arith;
  two = λ h. let n = r.one (omega arith) in omega arith;
  three = λ h. let n = r.two (omega arith) in omega arith;
  four = λ h. let n = r.three (omega arith) in omega arith;
}

-- a byte that is no digit is among no digits
pub digit_at : (word : List ℕ) (i : ℕ) → i < length word → AllDigits 10 word → digit_value (get_or word i 0) < 10
digit_at [] i within all = absurd (omega arith)
digit_at (b ∷ bs) zero within all = all.0
digit_at (b ∷ bs) (suc i) within all = digit_at bs i (omega arith) all.1

digit_in : (line : List ℕ) (n k : ℕ) → n ≤ length line → k < n → AllDigits 10 (take n line) → digit_value (get_or line k 0) < 10
digit_in line n k within below all =
    subst (λ (b : ℕ). digit_value b < 10) (get_or-take n line k 0 below) (let taken = length-take-le n line within in digit_at (take n line) k (omega (arith, taken, below)) all)

no_space : (b : ℕ) → digit_value b < 10 → b ≢ 32
no_space b digit is = absurd (small (subst (λ (b : ℕ). digit_value b < 10) is digit))
  where
    small : 36 < 10 → ⊥
    small h = omega arith

-- the digits at the front of a line are its first word, where a space or nothing is after them
digits_word : (line : List ℕ) (n : ℕ) → n ≤ length line → 0 < n → AllDigits 10 (take n line) → (n < length line → get_or line n 0 ≡ 32)
    → words_of line ≡ take n line ∷ words_of (drop n line)
digits_word line n within some all space =
    words_of-word line n within (λ k below. no_space (get_or line k 0) (digit_in line n k within below all)) space (let taken = length-take-le n line within in omega (arith, taken, some))

-- such digits are a word of few digits
pub begins_few : (line : List ℕ) (number n : ℕ) → IsFirstNumeral line number n → n ≢ 0 → (n < length line → get_or line n 0 ≡ 32)
    → (words left : List (List ℕ)) → words ≡ words_of line → left ≡ words_of (drop n line) → BeginsDigits words number left
begins_few line number n numeral some space words left are left_are = record {
  word = take n line;
  words_are = are ∙ digits_word line n numeral.within (omega (arith, some)) numeral.digits space ∙ ap (λ ws. take n line ∷ ws) (sym left_are);
  digits = record { few = let taken = length-take-le n line numeral.within in let few = numeral.few in omega (arith, taken, few); digits = numeral.digits };
  value = numeral.value;
}

-- ---- where no word of few digits is first

-- where the first space of a line is, or its end
record Front (line : List ℕ) (n : ℕ) : Type 0 where
  within : n ≤ length line
  before : (k : ℕ) → k < n → get_or line k 0 ≢ 32
  space : n < length line → get_or line n 0 ≡ 32

front : (line : List ℕ) → (n : ℕ) × Front line n
front [] = (0, record { within = omega arith; before = λ k below. absurd (omega arith); space = λ below. absurd (omega arith) })
front (b ∷ bs) = elim (eqb_tells b 32) [
  | inl is ↦ (0, record { within = omega arith; before = λ k below. absurd (omega arith); space = λ below. is.1 })
  | inr apart ↦
      let on = front bs in (
        suc on.0,
        record { within = let w = on.1.within in omega arith; before = go on.0 on.1 apart.1; space = λ below. on.1.space (omega arith) },
      )
]
  where
    go : (n : ℕ) → Front bs n → b ≢ 32 → (k : ℕ) → k < suc n → get_or (b ∷ bs) k 0 ≢ 32
    go n on apart zero below = apart
    go n on apart (suc k) below = on.before k (omega arith)

head : List (List ℕ) → List ℕ
head [] = []
head (word ∷ words) = word

none_at : (line : List ℕ) → slice_index line 0 ≢ 32 → (0 < length line → get_or line 0 0 ≡ 32) → (word : List ℕ) (words : List (List ℕ)) → words_of line ≡ word ∷ words → ⊥
none_at [] first space word words is = cc
none_at (x ∷ xs) first space word words is = first (space (omega arith))

-- digits that are none, or after which a word goes on, are no word of few digits
module _ (line : List ℕ) (number m : ℕ) (numeral : IsFirstNumeral line number m) (first : slice_index line 0 ≢ 32)
    (goes_on : (m ≡ 0) ⊎ ((m < length line) × (get_or line m 0 ≢ 32))) where
  pub no_few_digits : (words : List (List ℕ)) → words ≡ words_of line → (value : ℕ) (behind : List (List ℕ)) → BeginsDigits words value behind → ⊥
  unfolding head
  no_few_digits words are value behind b = go (front line).0 (front line).1
    where
      is : words_of line ≡ b.word ∷ behind
      is = sym are ∙ b.words_are

      go : (n : ℕ) → Front line n → ⊥
      go zero at = none_at line first at.space b.word behind is
      go (suc n) at =
          let taken = length-take-le (suc n) line at.within in
          let split = words_of-word line (suc n) at.within at.before at.space (omega (arith, taken)) in
          let same : take (suc n) line ≡ b.word = ap head (sym split ∙ is) in
          let all : AllDigits 10 (take (suc n) line) = subst (λ (word : List ℕ). AllDigits 10 word) (sym same) b.digits.digits in
          let few : suc n ≤ 4 = subst (λ (k : ℕ). k ≤ 4) taken (subst (λ (word : List ℕ). length word ≤ 4) (sym same) b.digits.few) in
          elim (leb_tells m (suc n)) [
            | inr over ↦ no_space (get_or line (suc n) 0) (digit_in line m (suc n) numeral.within over.1 numeral.digits) (at.space (omega (arith, over.1, numeral.within)))
            | inl most ↦ elim (leb_tells (suc n) m) [
              | inr under ↦
                  let digit = digit_in line (suc n) m at.within under.1 all in
                  let none = numeral.all (omega (arith, under.1, few)) (omega (arith, under.1, at.within)) in
                  omega (arith, digit, none)
              | inl least ↦ goes_nowhere n at (omega (arith, most.1, least.1)) goes_on
            ]
          ]
        where
          goes_nowhere : (n : ℕ) → Front line (suc n) → m ≡ suc n → (m ≡ 0) ⊎ ((m < length line) × (get_or line m 0 ≢ 32)) → ⊥
          goes_nowhere n at here (inl none) = omega (arith, here, none)
          goes_nowhere n at here (inr (inside, apart)) = apart (ap (λ (k : ℕ). get_or line k 0) here ∙ at.space (subst (λ (k : ℕ). k < length line) here inside))

-- digits that are not the whole word, or spell nothing, are no numeral
pub no_numeral : (word : List ℕ) (number len : ℕ) → IsFirstNumeral word number len → (len ≢ length word) ⊎ ((len ≡ length word) × (number ≤ 0)) → IsNumeral word → ⊥
no_numeral word number len numeral (inl part) is =
    let within = numeral.within in
    let few = is.few in
    let digit = digit_at word len (omega (arith, within, part)) is.digits in
    let none = numeral.all (omega (arith, within, part, few)) (omega (arith, within, part)) in
    omega (arith, digit, none)
no_numeral word number len numeral (inr (whole, zero_is)) is =
    let value : number ≡ decimal word = numeral.value ∙ ap decimal (take_all len word (omega (arith, whole))) in
    let positive = is.positive in
    omega (arith, value, positive, zero_is)
