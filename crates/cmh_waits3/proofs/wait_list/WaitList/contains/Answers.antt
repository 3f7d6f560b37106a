use Rattle.std.proofs.Common.{List, ap, ◌∙◌}
use Rattle.cmh_model3.specs.Lists.{in_list}
use Rattle.cmh_waits3.specs.declared.wait.Wait.{Wait}
use Rattle.cmh_waits3.specs.Rows.{targets_of}
use Rattle.cmh_waits3.proofs.Placing.{there_is}
use Rattle.cmh_waits3.proofs.wait_list.WaitList.contains.Goals as goal

pub returns : goal.returns
returns c =
    c.is_ok.ensures.value
    ∙ there_is c.deref.result.now c.args.target c.place_for.result c.place_for.ensures.at c.place_for.ensures.before
    ∙ ap (λ (ws : List Wait). in_list (targets_of ws) c.args.target) (c.deref.ensures.value ∙ c.self.view_is)
