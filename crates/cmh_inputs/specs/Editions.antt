-- Which edition a topology file or a journal is of.
use Rattle.std.specs.Prelude.{◌≡◌, ℕ, List, [], ◌∷◌}
use Rattle.cmh_console.specs.TopologyFile3.{SaysWorld}
use Rattle.cmh_frames.specs.Rows.{Row}

-- the topology file says a world of edition 3
abbrev pub SaysSomeWorld : List ℕ → Type 0
SaysSomeWorld topology = (world : List ℕ) × (rows : List Row) × SaysWorld topology world rows

-- the bytes begin as a segment of edition 3: "CMHJ", and the edition
pub record BeginsSegment (bytes : List ℕ) : Type 0 where
  pub rest : List ℕ
  pub bytes_are : bytes ≡ 67 ∷ 77 ∷ 72 ∷ 74 ∷ 3 ∷ rest

-- the first of the files does
abbrev pub BeginWithSegment : List (List ℕ) → Type 0
BeginWithSegment [] = ⊥
BeginWithSegment (first ∷ files) = BeginsSegment first
