use Rattle.std.proofs.Common.{refl, subst, sym}
use Rattle.cmh_audit3.specs.declared.verdict.Verdict.{Verdict}
use Rattle.cmh_files3.specs.Audits.{IsFindingOn}
use Rattle.cmh_files3.specs.declared.auditing.Finding.TheVariants.{Accepted}
use Rattle.cmh_page3.specs.Told.{IsFindingOf}
use Rattle.cmh_page3.proofs.told.finding_of.Goals as goal

pub returns-in-Accepted-finding : goal.returns-in-Accepted-finding
returns-in-Accepted-finding c =
    let t = c.args.world.now in
    let segments = c.args.segments.items in
    let report = c.in-Accepted-finding.report in
    let finds = subst (IsFindingOn t segments) c.in-Accepted-finding.is c.in_ok-told-in-Accepted.ensures.finding in
    subst (λ (v : Verdict). IsFindingOf t segments v (Accepted report)) (sym c.in-Accepted.is) (report, refl, finds)
