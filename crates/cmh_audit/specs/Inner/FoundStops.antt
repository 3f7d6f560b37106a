-- The stops that are read off how far a merge came.
use Rattle.std.specs.Prelude.{ℕ, ◌+◌, nat_lt, List, [], ◌∷◌, ◌++◌, length, if◌then◌else◌}
use Rattle.cmh_journal.specs.Journal.{Journal}
use Rattle.cmh_audit.specs.Journals.{journal_of}
use Rattle.cmh_audit.specs.Inner.Merging.{taken_of}

-- the stops of these sites, given how many entries of each journal were taken
abbrev pub stops_at : List ℕ → List Journal → List ℕ → List (ℕ × ℕ)
stops_at [] journals counts = []
stops_at (site ∷ sites) journals counts =
    (if nat_lt (length (taken_of journals counts site)) (length (journal_of journals site))
    then (site, length (taken_of journals counts site) + 1) ∷ [] else [])
    ++ stops_at sites journals counts
