use Rattle.std.proofs.Common.{sym, ◌∙◌}
use Rattle.cmh_controller.proofs.TakingBack.{remove_insert}
use Rattle.cmh_controller.proofs.beginning.declare.Goals as goal

pub returns-clause-back : goal.returns-clause-back
returns-clause-back c = remove_insert c.args.declared.now c.args.process (sym c.contains.ensures ∙ c.if-contains.false)
