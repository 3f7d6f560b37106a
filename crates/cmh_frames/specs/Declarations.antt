-- Whom a site has declared, told from its journal.
use Rattle.std.specs.Prelude.{◌≡◌, ℕ, ◌⊎◌, List, [], ◌∷◌, Some}
use Rattle.std.specs.List.{flat_map}
use Rattle.std.specs.Option.{option_to_list}
use Rattle.cmh_frames.specs.Entries.{Entry}

-- an entry of the journal declares i
abbrev pub Declares : List Entry → ℕ → Type 0
Declares [] i = ⊥
Declares (e ∷ es) i = (e.declared ≡ Some i) ⊎ Declares es i

-- the processes that the entries declare, in the entries' order
abbrev pub declarations : List Entry → List ℕ
declarations entries = flat_map (λ (e : Entry). option_to_list e.declared) entries
