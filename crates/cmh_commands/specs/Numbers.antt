-- The numbers that options tell.
use Rattle.std.specs.Prelude.{◌≡◌, ℕ, ◌<◌, ◌^◌, List, Option, None, Some}
use Rattle.std.specs.Str.Parse.{IsNumeral, digits_value, without_leading_plus}

-- an option that is told is this number, in decimal digits
abbrev pub TellsNumber : Option (List ℕ) → ℕ → Type 0
TellsNumber None number = ⊥
TellsNumber (Some text) number =
    IsNumeral 10 (without_leading_plus text) × (digits_value 10 (without_leading_plus text) ≡ number)

-- an option that is told is this epoch, or it is not told
abbrev pub TellsEpoch : Option (List ℕ) → Option ℕ → Type 0
TellsEpoch told None = told ≡ None
TellsEpoch told (Some epoch) = (epoch < 2 ^ 32) × TellsNumber told epoch
