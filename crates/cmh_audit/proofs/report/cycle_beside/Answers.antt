use Rattle.std.proofs.Common.{Some, List, ℕ, sym, ap, ◌∙◌}
use Rattle.cmh_audit.proofs.ReportLemmas.{beside_here, beside_none}
use Rattle.cmh_audit.proofs.report.cycle_beside.Goals as goal

pub returns-in-Some-clause-some : goal.returns-in-Some-clause-some
returns-in-Some-clause-some c =
    let at = c.in-Some.ensures in
    beside_here c.args.declared.now c.args.cycles.now c.args.process c.in-Some.place c.index-cycles-place.result c.requires.ascending c.requires.long at.0 at.1 c.index-cycles-place.is
    ∙ ap (λ (l : List ℕ). Some l) (sym c.as_slice.ensures)

pub returns-in-None-clause-none : goal.returns-in-None-clause-none
returns-in-None-clause-none c = beside_none c.args.declared.now c.args.cycles.now c.args.process c.in-None.ensures
