-- The processes that entries declare.
use Rattle.std.specs.Prelude.{ℕ, ◌<◌, ◌↔◌, ◌⊎◌, List, Contains}
use Rattle.cmh_frames.specs.Topology.{is_some_of}
use Rattle.cmh_frames.specs.Entries.{Entry}
use Rattle.cmh_frames.specs.Laws.{bit}

-- whether an entry declares i, as a number
abbrev pub declares : ℕ → Entry → ℕ
declares i e = bit (is_some_of e.declared i)

-- the new list has what the old one has, and each i with a count above 0
abbrev pub HasMore : List ℕ → List ℕ → (ℕ → ℕ) → Type 0
HasMore old new f = (i : ℕ) → Contains new i ↔ (Contains old i ⊎ (0 < f i))
