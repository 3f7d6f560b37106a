-- What holds of the published value, and of what the writer and each reader know.
use Rattle.std.specs.Prelude.{ℕ, ◌≡◌, ◌⊎◌, List, [], ◌∷◌}
use mathlib.Core.Option.{some}
use lib.ListN.{get_elem?}
use Rattle.logbook.specs.Pages.{Book}
use Rattle.cmh_shared.specs.declared.published.Published.{Published}

-- a book's name, as numbers
abbrev pub named : Book → List ℕ
named b = b.number ∷ b.log_name ∷ b.cells_name ∷ []

-- who knows the book knows this one
abbrev pub Fits : Book → List ℕ → Type 0
Fits b v = (v ≡ []) ⊎ (v ≡ named b)

-- the published list is the history that comes with it, and all who know a book know its book
abbrev pub Kept : Published → List (List ℕ) → Type 0
Kept x views = (x.list ≡ x.seen.log) ×
    ((seat : ℕ) (v : List ℕ) → get_elem? views seat ≡ some v → Fits x.seen.book v)

-- what a step tells: the book of what is published then, which is the one that was known, and the list
abbrev pub Saw : List ℕ → Published → Published → List ℕ → Type 0
Saw v x y w = (w ≡ named y.seen.book) × Fits y.seen.book v × (y.list ≡ y.seen.log)
