use Rattle.std.proofs.Common.{◌∙◌, not, sym, subst, rules, tests}
use Rattle.std.proofs.lemmas.Iterator.{YieldsList-from_slice}
use Rattle.std.proofs.lemmas.Iterator.Search.{any_from_yields_List}
use Rattle.cmh_model3.specs.Lists.{IsAscending, is_before}
use Rattle.cmh_waits3.specs.declared.wait.Wait.{Wait}
use Rattle.cmh_waits3.proofs.Counted.{passes_row}
use Rattle.cmh_waits3.proofs.site_waits.SiteWaits.passes.Goals as goal

pub returns : goal.returns
returns c =
    let ws = c.waits_of.result.now in
    let up = subst IsAscending (sym c.waits_of.ensures.targets) c.waits_of.ensures.ascending in
    any_from_yields_List (λ (w : Wait). not (is_before c.args.stamp c.args.origin w.since c.args.process)) _ _ _ c.any.ensures.ran (YieldsList-from_slice ws cc) (λ x b q k. search (rules, tests))
    ∙ passes_row c.args.self.now c.args.stamp c.args.origin c.args.process ws c.waits_of.ensures.row up
