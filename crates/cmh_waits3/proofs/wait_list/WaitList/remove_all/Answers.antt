use Rattle.std.proofs.Common.{List, sym, subst}
use Rattle.cmh_model3.specs.Lists.{IsAscending}
use Rattle.cmh_waits3.specs.declared.wait.Wait.{Wait}
use Rattle.cmh_waits3.specs.Rows.{targets_of}
use Rattle.cmh_waits3.proofs.Rows.{others_ascend}
use Rattle.cmh_waits3.proofs.wait_list.WaitList.remove_all.Goals as goal

pub invariant_of-self : goal.invariant_of-self
invariant_of-self c = subst (λ (ws : List Wait). IsAscending (targets_of ws)) (sym c.remove_each.ensures) (others_ascend c.args.targets.now c.self.inside.waits.items c.self.invariant)
