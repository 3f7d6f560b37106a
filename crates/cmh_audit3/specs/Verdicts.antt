-- What the auditor answers.
use Rattle.std.specs.Prelude.{◌≡◌, ℕ, List, map, ⊤, Result, Ok, Err, IsOk}
use Rattle.std.specs.List.{AllZip}
use Rattle.cmh_controller3.specs.Controller.{Controller}
use Rattle.cmh_controller3.specs.Replays.{StandsAfter}
use Rattle.cmh_model3.specs.Entries.{WorldEvent}
use Rattle.cmh_model3.specs.Runs.{IsRun}
use Rattle.cmh_topology3.specs.Topology.{Topology, site_of}
use Rattle.cmh_segment3.specs.declared.segment.Segment.{Segment}
use Rattle.cmh_segment3.specs.Entries.{step_of}
use Rattle.cmh_audit3.specs.declared.stops.Stop.{Stop}
use Rattle.cmh_audit3.specs.declared.verdict.Verdict.{Verdict}
use Rattle.cmh_audit3.specs.declared.verdict.Verdict.TheVariants.{Accepted, Refused}
use Rattle.cmh_audit3.specs.Journals.{AreJournalsOf, journal_of}

-- the order of a run from which the segments come, or else the stops
abbrev pub as_result : Verdict → Result (List ℕ) (List Stop)
as_result (Accepted order controllers) = Ok order
as_result (Refused stops) = Err stops

abbrev pub IsAccepted : Verdict → Type 0
IsAccepted verdict = IsOk (as_result verdict)

-- Where the sites take their next entries in this order, the entries of the segments are a run.
pub record IsOrderOf (t : Topology) (segments : List Segment) (order : List ℕ) : Type 0 where
  pub events : List WorldEvent
  pub in_turn : map (λ (e : WorldEvent). e.site) events ≡ order
  pub run : IsRun (site_of t) events
  pub kept : AreJournalsOf events (journal_of segments)

-- The controllers are those of the segments' sites, in the order of the segments, and each stands where the entries of its
-- segment lead.
abbrev pub StandAtEnds : Topology → List Segment → List Controller → Type 0
StandAtEnds t segments controllers =
    AllZip (λ (g : Segment) (c : Controller). StandsAfter t g.header.site (map step_of g.entries) c) segments controllers

-- so do those of a verdict that accepts
abbrev pub ControllersStand : Topology → List Segment → Verdict → Type 0
ControllersStand t segments (Accepted order controllers) = StandAtEnds t segments controllers.items
ControllersStand t segments (Refused stops) = ⊤
