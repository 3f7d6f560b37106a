-- What the auditor answers of an epoch.
use Rattle.std.specs.Prelude.{◌≡◌, ℕ, ◌<◌, ◌≤◌, List, length, map, ⊤}
use Rattle.std.specs.List.{AllByRecursion}
use Rattle.std.specs.List.Sorted.{IsStrictlyIncreasing}
use Rattle.cmh_controller3.specs.Controller.{Controller}
use Rattle.cmh_epochs3.specs.Laws.{IsRunFrom, LeadsTo}
use Rattle.cmh_merge.specs.Queues.{Queues, waiting}
use Rattle.cmh_model3.specs.Entries.{WorldEvent}
use Rattle.cmh_model3.specs.Runs.{IsBeginningOf, entries_of}
use Rattle.cmh_model3.specs.declared.frame.Message.{Message}
use Rattle.cmh_topology3.specs.Topology.{Topology, site_of, sites_of}
use Rattle.cmh_segment3.specs.declared.segment.Segment.{Segment}
use Rattle.cmh_segment3.specs.Steps.{entries_from}
use Rattle.cmh_audit3.specs.declared.stops.Stop.{Stop}
use Rattle.cmh_audit3.specs.Journals.{journal_of}
use Rattle.cmh_audit3.specs.Standing.{StandBehind}
use Rattle.cmh_audit3.specs.Stops.{IsStopFrom, before_stop}
use Rattle.cmh_history3.specs.declared.epoch_verdict.EpochVerdict.{EpochVerdict}
use Rattle.cmh_history3.specs.declared.epoch_verdict.EpochVerdict.TheVariants.{Accepted, Disagreed, Refused}
use Rattle.cmh_history3.specs.Between.{AreAgreed, IsDisagreement}
use Rattle.cmh_history3.specs.Worlds.{AreJournalsFrom, ComeFromRunFrom, end_of, state_at, world_of}

abbrev pub IsAccepted : EpochVerdict → Type 0
IsAccepted (Accepted order controllers queues) = ⊤
IsAccepted (Disagreed link) = ⊥
IsAccepted (Refused stops) = ⊥

-- Where the sites take their next entries in this order, the entries of the segments are a run from the bases. It leads to
-- where the controllers stand, and these messages are under way then.
pub record IsEnd (t : Topology) (segments : List Segment) (order : List ℕ) (controllers : List Controller) (queues : Queues Message) : Type 0 where
  pub events : List WorldEvent
  pub in_turn : map (λ (e : WorldEvent). e.site) events ≡ order
  pub run : IsRunFrom (site_of t) (world_of t segments) events
  pub kept : AreJournalsFrom (world_of t segments) events (journal_of segments)
  pub leads : LeadsTo (site_of t) (world_of t segments) events (end_of t segments (waiting queues))
  pub stand : StandBehind t (state_at segments) segments controllers

-- what the verdict says where it accepts
abbrev pub Ends : Topology → List Segment → EpochVerdict → Type 0
Ends t segments (Accepted order controllers queues) = IsEnd t segments order controllers.items queues
Ends t segments (Disagreed link) = ⊤
Ends t segments (Refused stops) = ⊤

-- The stops of segments: what stands before them comes from a run from the bases, and no run of beginnings of the segments
-- has more.
pub record AreStops (t : Topology) (segments : List Segment) (stops : List Stop) : Type 0 where
  pub some : 0 < length stops
  pub ascending : IsStrictlyIncreasing (map (λ (stop : Stop). stop.site) stops)
  pub each : AllByRecursion (IsStopFrom t (state_at segments) segments) stops
  pub comes : ComeFromRunFrom t (world_of t segments) (λ s. before_stop stops s (journal_of segments s))
  pub most : (events : List WorldEvent) → IsRunFrom (site_of t) (world_of t segments) events
      → ((s : ℕ) → IsBeginningOf (entries_from (state_at segments s).clock (entries_of s events)) (journal_of segments s))
      → (s : ℕ) → length (entries_of s events) ≤ length (before_stop stops s (journal_of segments s))

-- what it says where it does not
abbrev pub Refuses : Topology → List Segment → EpochVerdict → Type 0
Refuses t segments (Accepted order controllers queues) = ⊤
Refuses t segments (Disagreed link) = IsDisagreement (sites_of t) segments link
Refuses t segments (Refused stops) = AreAgreed (sites_of t) segments × AreStops t segments stops
