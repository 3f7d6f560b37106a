-- A controller on its way through the entries of a site.
use Rattle.std.specs.Prelude.{◌≡◌, ℕ, ◌+◌, ◌<◌, List, [], ◌∷◌, ◌++◌, length, take, IfNone, IfSome}
use Rattle.cmh_frames.specs.Topology.{Topology}
use Rattle.cmh_frames.specs.Entries.{Entry}
use Rattle.cmh_frames.specs.Journals.{value}
use Rattle.cmh_journal.specs.Journal.{Journal}
use Rattle.cmh_audit.specs.Inner.Merging.{IsLawfulLength}
use Rattle.cmh_audit.specs.Sums.{in_entries}
use Rattle.cmh_audit.specs.Totals.{Totals, AreTotals}
use Rattle.cmh_audit.specs.declared.walk.Walk.{Walk}

-- It made the first `count` of the entries. As long as it goes on these are all; where it stopped there are more.
pub record Walks (t : Topology) (site : ℕ) (entries : List Entry) (walk : Walk) : Type 0 where
  pub lawful : IsLawfulLength t site entries walk.count
  pub goes_on : IfSome walk.controller (λ c. (walk.count ≡ length entries)
      × (c ≡ record { topology = t; site = site; state = value t site entries }))
  pub stopped : IfNone walk.controller (walk.count < length entries)

-- the totals of entries that sum up so, and of these
abbrev pub TotalsWith : ((Entry → ℕ) → ℕ) → List Entry → Totals → Type 0
TotalsWith sum entries totals = AreTotals (λ f. sum f + in_entries f entries) totals

-- it came to one entry more, and the totals with it where it made it
pub record WalksOn (t : Topology) (site : ℕ) (entries : List Entry) (entry : Entry) (old new : Walk)
    (before after : Totals) : Type 0 where
  pub walks : Walks t site (entries ++ entry ∷ []) new
  pub totals : (sum : (Entry → ℕ) → ℕ) → TotalsWith sum (take old.count entries) before
      → TotalsWith sum (take new.count (entries ++ entry ∷ [])) after

-- the totals after the first n entries of a journal, where they were others before
abbrev pub GrowsBy : Totals → Totals → Journal → ℕ → Type 0
GrowsBy old new journal n = (sum : (Entry → ℕ) → ℕ) → AreTotals sum old → TotalsWith sum (take n journal.entries) new

-- ---- journals up to so many entries

-- the journals, each with its first entries alone
abbrev pub cut_all_to : List Journal → List ℕ → List Journal
cut_all_to [] limits = []
cut_all_to (j ∷ journals) [] = []
cut_all_to (j ∷ journals) (n ∷ limits) = record j { entries = take n j.entries } ∷ cut_all_to journals limits
