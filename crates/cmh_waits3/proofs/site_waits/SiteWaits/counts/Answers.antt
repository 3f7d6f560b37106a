use Rattle.std.proofs.Common.{◌∙◌, sym, subst, rules, tests}
use Rattle.std.proofs.lemmas.Iterator.{YieldsList-from_slice}
use Rattle.std.proofs.lemmas.Iterator.Search.{any_from_yields_List}
use Rattle.cmh_model3.specs.Lists.{IsAscending}
use Rattle.cmh_waits3.proofs.Counted.{counts_row, is_counted}
use Rattle.cmh_waits3.proofs.site_waits.SiteWaits.counts.Goals as goal

pub returns : goal.returns
returns c =
    let ws = c.waits_of.result.now in
    let up = subst IsAscending (sym c.waits_of.ensures.targets) c.waits_of.ensures.ascending in
    any_from_yields_List (is_counted c.args.stamp c.args.origin c.args.asker c.args.holder) _ _ _ c.any.ensures.ran (YieldsList-from_slice ws cc) (λ x b q k. search (rules, tests))
    ∙ counts_row c.args.self.now c.args.stamp c.args.origin c.args.asker c.args.holder ws c.waits_of.ensures.row up
