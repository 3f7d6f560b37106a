-- An audit of journals over several epochs: what it means that it accepts.
use Rattle.std.specs.Prelude.{ℕ, List, flat_map}
use Rattle.std.specs.List.{AllZip}
use Rattle.cmh_topology3.specs.Topology.{Topology}
use Rattle.cmh_segment3.specs.declared.segment.Segment.{Segment}
use Rattle.cmh_report3.specs.declared.report.Report.{Report}
use Rattle.cmh_files3.specs.Audits.{IsReportOn, SaysTopology}
use Rattle.cmh_history3.specs.Epochs.{open_in}
use Rattle.cmh_history3.specs.Histories.{AreOfOneRun}
use Rattle.cmh_long_audit3.specs.Read.{AreRead}

-- The files are those of journals whose entries, each segment's behind the turn to it, come from a run, and there is a report
-- on it. A turn is an event of it.
pub record HasReport (t : Topology) (files : List (List (List ℕ))) : Type 0 where
  pub journals : List (List Segment)
  pub read : AllZip AreRead files journals
  pub report : Report
  pub reports : IsReportOn t (flat_map (open_in 0) journals) report

-- The topology file says a world, and the files are those of its journals, of which all epochs are accepted. Of these there
-- is a report.
pub record IsAccepted (topology : List ℕ) (files : List (List (List ℕ))) : Type 0 where
  pub world : Topology
  pub says : SaysTopology topology world
  pub journals : List (List Segment)
  pub read : AllZip AreRead files journals
  pub one : AreOfOneRun world journals
  pub report : HasReport world files
