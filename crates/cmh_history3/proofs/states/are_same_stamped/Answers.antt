use Rattle.cmh_history3.proofs.Rows.{stamped_decide}
use Rattle.cmh_history3.proofs.states.are_same_stamped.Goals as goal

pub returns : goal.returns
returns c = stamped_decide c.args.one.now c.args.other.now c.eq.result c.eq.ensures
