-- The segments that an auditor is given, read by site number, and the runs from which they come.
use Rattle.std.specs.Prelude.{◌≡◌, ℕ, List, [], ◌∷◌, ◌==◌, if◌then◌else◌, map}
use Rattle.cmh_model3.specs.Entries.{WorldEvent}
use Rattle.cmh_model3.specs.Journals.{LawfulFrom}
use Rattle.cmh_model3.specs.Runs.{IsRun, entries_of}
use Rattle.cmh_model3.specs.State.{State}
use Rattle.cmh_topology3.specs.Topology.{Topology, site_of}
use Rattle.cmh_segment3.specs.declared.entry.Entry.{Entry}
use Rattle.cmh_segment3.specs.declared.segment.Segment.{Segment}
use Rattle.cmh_segment3.specs.Entries.{step_of}
use Rattle.cmh_segment3.specs.Steps.{entries_from}

-- the entries of a site's segment; none where it has no segment
abbrev pub journal_of : List Segment → ℕ → List Entry
journal_of [] s = []
journal_of (g ∷ segments) s = if g.header.site == s then g.entries else journal_of segments s

-- They are entries of the site's written controller from this state: their steps are lawful, and each declaration has the
-- stamp of the stop at which the cycle stood.
pub record AreLawfulFrom (t : Topology) (s : ℕ) (v : State) (entries : List Entry) : Type 0 where
  pub steps : LawfulFrom (site_of t) s v (map step_of entries)
  pub stamps : entries_from v.clock (map step_of entries) ≡ entries

-- The journals, given by site number, are those of the list: each has just the entries of the steps that its site has there.
abbrev pub AreJournalsOf : List WorldEvent → (ℕ → List Entry) → Type 0
AreJournalsOf events journals = (s : ℕ) → entries_from 0 (entries_of s events) ≡ journals s

-- They come from a run.
abbrev pub ComeFromRun : Topology → (ℕ → List Entry) → Type 0
ComeFromRun t journals = (events : List WorldEvent) × IsRun (site_of t) events × AreJournalsOf events journals
