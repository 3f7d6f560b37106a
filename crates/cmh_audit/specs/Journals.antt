-- The journals that an auditor is given, read by site number.
use Rattle.std.specs.Prelude.{◌≢◌, ℕ, ◌+◌, List, [], ◌∷◌, length, All, ◌==◌, if◌then◌else◌}
use Rattle.cmh_frames.specs.Topology.{Topology}
use Rattle.cmh_frames.specs.Entries.{Entry}
use Rattle.cmh_frames.specs.Journals.{IsLawful}
use Rattle.cmh_journal.specs.Journal.{Journal}

-- the entries of a site's journal; none where it has no journal
abbrev pub journal_of : List Journal → ℕ → List Entry
journal_of [] site = []
journal_of (j ∷ journals) site = if j.site == site then j.entries else journal_of journals site

-- no journal is of this site
abbrev pub NoneAt : ℕ → List Journal → Type 0
NoneAt site [] = Unit {0}
NoneAt site (j ∷ journals) = (j.site ≢ site) × NoneAt site journals

-- how many entries the journals have together
abbrev pub entry_count : List Journal → ℕ
entry_count [] = 0
entry_count (j ∷ journals) = length j.entries + entry_count journals

-- each is a journal of its site's written controller
abbrev pub AreAllLawful : Topology → List Journal → Type 0
AreAllLawful t journals = All (λ (j : Journal). IsLawful t j.site j.entries) journals
