-- The least member of a cycle that has given up its wait for the next one.
use Rattle.std.specs.Prelude.{◌≡◌, ℕ, Bool, true, List, Option}
use Rattle.cmh_report3.specs.Reports.{IsLeastLeaver}

abbrev pub IsLeastIn : (ℕ → ℕ → Bool) → List ℕ → Option ℕ → Type 0
IsLeastIn left members by = IsLeastLeaver (λ j k. left j k ≡ true) members by
