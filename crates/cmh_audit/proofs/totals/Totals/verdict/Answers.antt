use Rattle.std.proofs.Common.{◌∙◌, ap, sym, refl}
use Rattle.cmh_audit.specs.Totals.{Totals}
use Rattle.cmh_audit.proofs.TotalLemmas.{tries_within}
use Rattle.cmh_audit.proofs.totals.Totals.verdict.Goals as goal

pub returns-clause-tries : goal.returns-clause-tries
returns-clause-tries c = λ journals of_run.
    let report = c.in_ok-report.ensures in
    report.tries ∙ ap (λ (s : Totals). s.events) c.self.view_is ∙ sym report.as_kept ∙ report.events journals of_run

pub returns-clause-verdict : goal.returns-clause-verdict
returns-clause-verdict c = λ journals of_run.
    let report = c.in_ok-report.ensures in
    record {
      accepted = (λ _. of_run.comes, λ _. refl);
      report = report.reports journals of_run;
      order = report.order;
      counted = report.events journals of_run;
      stops = tt;
      tries = tries_within journals c.in_ok-report.report.tries (report.tries ∙ ap (λ (s : Totals). s.events) c.self.view_is ∙ sym report.as_kept ∙ report.events journals of_run);
    }
