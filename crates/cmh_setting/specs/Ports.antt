-- The ports of the sites.
use Rattle.std.specs.Prelude.{ℕ, List, [], ◌∷◌, ◌==◌, Option, find, option_map, if◌then◌else◌}
use Rattle.cmh_frames.specs.Number.{is_number}
use Rattle.cmh_frames.specs.Rows.{Row}

-- each row's site with the port at the row's place; a number that is no site's is left out
abbrev pub ported : List Row → List ℕ → List (ℕ × ℕ)
ported [] ports = []
ported (row ∷ rows) [] = []
ported (row ∷ rows) (port ∷ ports) = if is_number row.0 then (row.0, port) ∷ ported rows ports else ported rows ports

-- the port beside the first of these that is this site
abbrev pub port_in : List (ℕ × ℕ) → ℕ → Option ℕ
port_in pairs site = option_map (λ (pair : ℕ × ℕ). pair.1) (find (λ (pair : ℕ × ℕ). pair.0 == site) pairs)
