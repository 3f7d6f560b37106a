-- Words of a line, and the numbers that they spell.
use Rattle.std.specs.Prelude.{ℕ, ◌≤◌, List, length, not, ◌==◌}
use Rattle.std.specs.List.{filter, slice_split}
use Rattle.std.specs.Str.Parse.{digits_value, AllDigits}

-- the words of a line: what stands before, between and after the spaces, where that is not empty
abbrev pub words_of : List ℕ → List (List ℕ)
words_of line = filter (λ (word : List ℕ). not (length word == 0)) (slice_split (λ b. b == 32) line)

-- the number that decimal digits spell
abbrev pub decimal : List ℕ → ℕ
decimal word = digits_value 10 word

-- one to four decimal digits that spell a number of at least 1
pub record IsNumeral (word : List ℕ) : Type 0 where
  pub few : length word ≤ 4
  pub digits : AllDigits 10 word
  pub positive : 1 ≤ decimal word
