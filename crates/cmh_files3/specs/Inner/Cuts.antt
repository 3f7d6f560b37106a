-- What is read of one file.
use Rattle.std.specs.Prelude.{ℕ, zero, suc, List, [], ◌∷◌}

-- how many bytes stand after the last entry of a site, if there are any
abbrev pub cut_at : ℕ → ℕ → List (ℕ × ℕ)
cut_at site zero = []
cut_at site (suc n) = (site, suc n) ∷ []
