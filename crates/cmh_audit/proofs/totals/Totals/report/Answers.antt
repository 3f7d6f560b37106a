use Rattle.std.proofs.Common.{◌≡◌, ◌∙◌, ℕ, List, sym, subst}
use Rattle.std.proofs.lemmas.Result.{IfOk-weaker}
use Rattle.cmh_frames.specs.Entries.{WorldEvent}
use Rattle.cmh_frames.specs.Runs.{ComesFrom, IsRun}
use Rattle.cmh_journal.specs.Journal.{Journal}
use Rattle.cmh_audit.specs.Inner.Reporting.{IsReportWith}
use Rattle.cmh_audit.specs.Journals.{journal_of, entry_count}
use Rattle.cmh_audit.specs.Reports.{Report, Reports}
use Rattle.cmh_audit.specs.Totals.{Totals, AreTotalsOfRun}
use Rattle.cmh_audit.proofs.TotalLemmas.{events_are, total_report}
use Rattle.cmh_audit.proofs.totals.Totals.report.Goals as goal

pub returns-clause-reports : goal.returns-clause-reports
returns-clause-reports c =
    let t = c.args.topology.now in
    let totals : Totals = record { waits = c.self.inside.waits; declared = c.self.inside.declared.keys; events = c.self.inside.events; sent = c.self.inside.sent; got = c.self.inside.got } in
    IfOk-weaker c.report_with.result (λ (report : Report). IsReportWith totals.waits totals.declared totals.events c.saturating_sub-in_transit.result c.args.tries report)
    (λ (report : Report). (journals : List Journal) → AreTotalsOfRun t journals c.args.self.now → (events : List WorldEvent) → IsRun t events → ComesFrom (journal_of journals) events → Reports t events report)
    (λ report made journals of_run.
    total_report t journals totals (subst (λ (s : Totals). AreTotalsOfRun t journals s) (sym c.self.view_is) of_run) c.sites.result.now c.sites.ensures.value c.sites.ensures.few c.sites.ensures.ascending c.whole_law.ensures.each
    c.args.tries report (subst (λ (n : ℕ). IsReportWith totals.waits totals.declared totals.events n c.args.tries report) c.saturating_sub-in_transit.ensures made)
    c.count_law_of_every_run.ensures.counts c.dark_path_of_every_run.ensures.dark_path)
    c.report_with.ensures

pub returns-clause-events : goal.returns-clause-events
returns-clause-events c =
    let t = c.args.topology.now in
    let totals : Totals = record { waits = c.self.inside.waits; declared = c.self.inside.declared.keys; events = c.self.inside.events; sent = c.self.inside.sent; got = c.self.inside.got } in
    IfOk-weaker c.report_with.result (λ (report : Report). IsReportWith totals.waits totals.declared totals.events c.saturating_sub-in_transit.result c.args.tries report)
    (λ (report : Report). (journals : List Journal) → AreTotalsOfRun t journals c.args.self.now → report.events ≡ entry_count journals)
    (λ report made journals of_run.
    made.events_are
    ∙ events_are t journals totals (subst (λ (s : Totals). AreTotalsOfRun t journals s) (sym c.self.view_is) of_run) c.sites.result.now c.sites.ensures.value c.sites.ensures.few c.sites.ensures.ascending c.whole_law.ensures.each)
    c.report_with.ensures
