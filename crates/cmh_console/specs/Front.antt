-- The number at the front of words.
use Rattle.std.specs.Prelude.{◌≡◌, ◌≤◌, ◌<◌, ℕ, List, ◌∷◌, length, take, slice_index, Option, None, Some}
use Rattle.std.specs.Char.{digit_value}
use Rattle.std.specs.Str.Parse.{AllDigits}
use Rattle.cmh_console.specs.Words.{IsNumeral, decimal}

-- one to four decimal digits, or none: they may spell zero
pub record AreFewDigits (word : List ℕ) : Type 0 where
  pub few : length word ≤ 4
  pub digits : AllDigits 10 word

-- Of the digits at the front of a line these are the first four, or all of them if they are fewer, and they spell the number.
pub record IsFirstNumeral (line : List ℕ) (number len : ℕ) : Type 0 where
  pub within : len ≤ length line
  pub few : len ≤ 4
  pub digits : AllDigits 10 (take len line)
  pub value : number ≡ decimal (take len line)
  pub all : len < 4 → len < length line → 10 ≤ digit_value (slice_index line len)

-- the first word is of few digits that spell the number, and these are the words after it
pub record BeginsDigits (words : List (List ℕ)) (number : ℕ) (behind : List (List ℕ)) : Type 0 where
  pub word : List ℕ
  pub words_are : words ≡ word ∷ behind
  pub digits : AreFewDigits word
  pub value : number ≡ decimal word

-- Taking such a number off the words gave this one and left those after it; or none, where none begins them.
abbrev pub TakesDigits : List (List ℕ) → List (List ℕ) → Option ℕ → Type 0
TakesDigits words left None = (number : ℕ) (behind : List (List ℕ)) → BeginsDigits words number behind → ⊥
TakesDigits words left (Some number) = BeginsDigits words number left

-- the first word spells the number, and these are the words after it
pub record Begins (words : List (List ℕ)) (number : ℕ) (behind : List (List ℕ)) : Type 0 where
  pub word : List ℕ
  pub words_are : words ≡ word ∷ behind
  pub numeral : IsNumeral word
  pub value : decimal word ≡ number

-- no word is first that spells a number
abbrev pub BeginsNone : List (List ℕ) → Type 0
BeginsNone words = (number : ℕ) (behind : List (List ℕ)) → Begins words number behind → ⊥

-- Taking a number off the words gave this one and left those after it; or none, where none begins them.
abbrev pub Takes : List (List ℕ) → List (List ℕ) → Option ℕ → Type 0
Takes words left None = BeginsNone words
Takes words left (Some number) = Begins words number left
