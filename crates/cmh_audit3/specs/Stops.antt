-- Where a merge stopped.
use Rattle.std.specs.Prelude.{ℕ, ◌-◌, ◌<◌, ◌≤◌, ◌==◌, List, [], ◌∷◌, length, map, take, if◌then◌else◌}
use Rattle.std.specs.List.{AllByRecursion}
use Rattle.std.specs.List.Sorted.{IsStrictlyIncreasing}
use Rattle.cmh_model3.specs.Entries.{WorldEvent}
use Rattle.cmh_model3.specs.Runs.{IsBeginningOf, IsRun, entries_of}
use Rattle.cmh_model3.specs.State.{State, empty_state}
use Rattle.cmh_topology3.specs.Topology.{Topology, site_of}
use Rattle.cmh_segment3.specs.declared.entry.Entry.{Entry}
use Rattle.cmh_segment3.specs.declared.segment.Segment.{Segment}
use Rattle.cmh_segment3.specs.Steps.{entries_from}
use Rattle.cmh_audit3.specs.declared.stops.Reason.{Reason}
use Rattle.cmh_audit3.specs.declared.stops.Reason.TheVariants.{Unlawful, NotSent}
use Rattle.cmh_audit3.specs.declared.stops.Stop.{Stop}
use Rattle.cmh_audit3.specs.Journals.{AreLawfulFrom, ComeFromRun, journal_of}

-- the entries of a site before its stop; all where it has none
abbrev pub before_stop : List Stop → ℕ → List Entry → List Entry
before_stop [] s entries = entries
before_stop (stop ∷ stops) s entries = if stop.site == s then take (stop.entry - 1) entries else before_stop stops s entries

-- Why a site stops at an entry: by the entries up to it, it is none that its controller makes; or it is one, so what it got
-- was not sent before the other stops.
abbrev pub IsReasonFrom : Topology → ℕ → State → List Entry → Reason → Type 0
IsReasonFrom t s v entries Unlawful = ¬ AreLawfulFrom t s v entries
IsReasonFrom t s v entries NotSent = AreLawfulFrom t s v entries

-- A stop is at an entry of its site's segment, for this reason, where each site begins in its state among these.
pub record IsStopFrom (t : Topology) (states : ℕ → State) (segments : List Segment) (stop : Stop) : Type 0 where
  pub least : 1 ≤ stop.entry
  pub within : stop.entry ≤ length (journal_of segments stop.site)
  pub reason : IsReasonFrom t stop.site (states stop.site) (take stop.entry (journal_of segments stop.site)) stop.reason

-- where all begin in the first state
abbrev pub IsStop : Topology → List Segment → Stop → Type 0
IsStop t segments stop = IsStopFrom t (λ s. empty_state) segments stop

-- The stops of segments: what stands before them comes from a run, and no run of beginnings of the segments has more.
pub record AreStops (t : Topology) (segments : List Segment) (stops : List Stop) : Type 0 where
  pub some : 0 < length stops
  pub ascending : IsStrictlyIncreasing (map (λ (stop : Stop). stop.site) stops)
  pub each : AllByRecursion (IsStop t segments) stops
  pub comes : ComeFromRun t (λ s. before_stop stops s (journal_of segments s))
  pub most : (events : List WorldEvent) → IsRun (site_of t) events
      → ((s : ℕ) → IsBeginningOf (entries_from 0 (entries_of s events)) (journal_of segments s))
      → (s : ℕ) → length (entries_of s events) ≤ length (before_stop stops s (journal_of segments s))
