use Rattle.std.proofs.Common.{List, subst}
use Rattle.cmh_segment3.specs.declared.segment.Segment.{Segment}
use Rattle.cmh_files3.specs.Audits.{IsFindingOn, IsReportOn}
use Rattle.cmh_files3.specs.declared.auditing.Finding.{Finding}
use Rattle.cmh_long_audit3.proofs.auditing.accepted.Goals as goal

pub returns-in-Accepted : goal.returns-in-Accepted
returns-in-Accepted g c = λ yes.
    let t = c.args.world.now in
    let report = c.in-Accepted.report in
    let found = subst (λ (f : Finding). IsFindingOn t c.in_ok-wholes.wholes.items f) c.in-Accepted.is c.in_ok-told.ensures.finding in
    record {
      journals = c.in_ok-journals_of.field-0.items;
      read = c.in_ok-journals_of.ensures;
      report = report;
      reports = subst (λ (gs : List Segment). IsReportOn t gs report) c.in_ok-wholes.ensures found;
    }
