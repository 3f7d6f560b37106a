-- In which column of a run each entry stands.
use Rattle.std.specs.Prelude.{◌≡◌, ℕ, ◌≤◌, List, [], ◌∷◌, length, map, ⊤}
use Rattle.std.specs.List.{AllByRecursion}
use Rattle.cmh_frames.specs.Topology.{Topology, sites_of}
use Rattle.cmh_frames.specs.Rules.{IsAscending}
use Rattle.cmh_journal.specs.Journal.{Journal}
use Rattle.cmh_audit.specs.Journals.{journal_of}

-- how many entries each site has
abbrev pub lengths_of : Topology → List Journal → List ℕ
lengths_of t journals = map (λ site. length (journal_of journals site)) (sites_of t)

-- the columns of so many entries of each site, those of a site ascending: no two of its entries stand in one column
abbrev pub AreColumns : List ℕ → List (List ℕ) → Type 0
AreColumns [] [] = ⊤
AreColumns (n ∷ lengths) (site ∷ columns) = (length site ≡ n) × IsAscending site × AreColumns lengths columns
AreColumns lengths columns = ⊥

-- no entry stands on the right of a picture of so many columns
abbrev pub AreWithin : ℕ → List (List ℕ) → Type 0
AreWithin width columns = AllByRecursion (λ site. AllByRecursion (λ column. column ≤ width) site) columns
