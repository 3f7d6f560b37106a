use Rattle.std.proofs.Common.{◌∙◌, not, ap, rules, tests}
use Rattle.std.proofs.lemmas.Iterator.{YieldsList-from_slice}
use Rattle.std.proofs.lemmas.Iterator.Search.{any_from_yields_List}
use Rattle.cmh_model3.specs.Lists.{in_list, is_nonempty, without_all}
use Rattle.cmh_waits3.specs.declared.wait.Wait.{Wait}
use Rattle.cmh_waits3.proofs.Copies.{left_some}
use Rattle.cmh_waits3.proofs.site_waits.SiteWaits.stays_blocked.Goals as goal

pub returns : goal.returns
returns c =
    let ws = c.waits_of.result.now in
    let ks = c.args.targets.now in
    any_from_yields_List (λ (w : Wait). not (in_list ks w.target)) _ _ _ c.any.ensures.ran (YieldsList-from_slice ws cc) (λ x b q k. search (rules, tests))
    ∙ left_some ks ws
    ∙ ap (λ xs. is_nonempty (without_all xs ks)) c.waits_of.ensures.targets
