-- A table of the places of journals.
use Rattle.std.specs.Prelude.{◌≡◌, ℕ, ◌<◌, List, [], ◌∷◌, length, slice_index_or, MatchOption, Option, None}
use Rattle.std.specs.List.{HoldsAt}
use Rattle.cmh_journal.specs.Journal.{Journal}
use Rattle.cmh_audit.specs.Journals.{NoneAt}

-- at each site's number the place of its journal; none where no journal is of the site
abbrev pub ArePlacesOf : List Journal → List (Option ℕ) → Type 0
ArePlacesOf journals by_site =
    (site : ℕ) → MatchOption (slice_index_or by_site site None) (NoneAt site journals)
    (λ i. (i < length journals) × HoldsAt (λ (j : Journal). j.site ≡ site) journals i)

-- no two journals are of one site
abbrev pub OneEach : List Journal → Type 0
OneEach [] = Unit {0}
OneEach (j ∷ journals) = NoneAt j.site journals × OneEach journals
