-- What a page of edition 3 tells of segments: the run that their audit chose, or how far they can be taken.
use Rattle.std.specs.Prelude.{◌≡◌, ◌↔◌, ℕ, IfErr, IfOk, List, [], flat_map, length, replicate}
use Rattle.cmh_topology3.specs.Topology.{Topology, sites_of}
use Rattle.cmh_segment3.specs.declared.segment.Segment.{Segment}
use Rattle.cmh_audit3.specs.Journals.{ComeFromRun, journal_of}
use Rattle.cmh_audit3.specs.Stops.{AreStops, before_stop}
use Rattle.cmh_audit3.specs.Verdicts.{IsAccepted, IsOrderOf, as_result}
use Rattle.cmh_audit3.specs.declared.stops.Stop.{Stop}
use Rattle.cmh_audit3.specs.declared.verdict.Verdict.{Verdict}
use Rattle.cmh_audit3.specs.declared.verdict.Verdict.TheVariants as verdicts
use Rattle.cmh_report3.specs.declared.report.Report.{Report}
use Rattle.cmh_files3.specs.Audits.{IsReportOn}
use Rattle.cmh_files3.specs.ReasonLines.{AreReasonLines}
use Rattle.cmh_files3.specs.declared.auditing.Finding.{Finding}
use Rattle.cmh_files3.specs.declared.auditing.Finding.TheVariants.{Accepted, Refused}

-- the site as often as it has entries before its stop
abbrev pub site_before : List Segment → List Stop → ℕ → List ℕ
site_before segments stops site = replicate (length (before_stop stops site (journal_of segments site))) site

-- site by site
abbrev pub order_before : Topology → List Segment → List Stop → List ℕ
order_before t segments stops = flat_map (site_before segments stops) (sites_of t)

-- The site of each entry that is told: in the order that the audit chose, or of segments that come from no run all before
-- their stops.
abbrev pub told_order : Topology → List Segment → Verdict → List ℕ
told_order t segments (verdicts.Accepted order controllers) = order
told_order t segments (verdicts.Refused stops) = order_before t segments stops

-- The verdict is that of an audit of the segments: accepted exactly where they come from a run, in the order of such a run,
-- or else with the furthest stops.
pub record IsVerdictOn (t : Topology) (segments : List Segment) (verdict : Verdict) : Type 0 where
  pub accepted : IsAccepted verdict ↔ ComeFromRun t (journal_of segments)
  pub order : IfOk (as_result verdict) (IsOrderOf t segments)
  pub stops : IfErr (as_result verdict) (AreStops t segments)

-- with a report on a run from which the segments come, or with the stops
abbrev pub IsFindingOf : Topology → List Segment → Verdict → Finding → Type 0
IsFindingOf t segments (verdicts.Accepted order controllers) finding =
    (report : Report) × (finding ≡ Accepted report) × IsReportOn t segments report
IsFindingOf t segments (verdicts.Refused stops) finding = finding ≡ Refused stops

-- a line for each stop
abbrev pub AreReasons : Topology → List Segment → Verdict → List ℕ → Type 0
AreReasons t segments (verdicts.Accepted order controllers) text = text ≡ []
AreReasons t segments (verdicts.Refused stops) text = AreReasonLines t segments stops stops text
