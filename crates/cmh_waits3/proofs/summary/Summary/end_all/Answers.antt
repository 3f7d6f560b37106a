use Rattle.std.proofs.Common.{refl}
use Rattle.cmh_waits3.proofs.Summaries.{summary_ended}
use Rattle.cmh_waits3.proofs.summary.Summary.end_all.Goals as goal

pub returns-else-is_empty : goal.returns-else-is_empty
returns-else-is_empty c = λ row sum is. summary_ended c.args.members.now c.args.targets.now c.args.self.now _ c.without_processes-self.ensures refl refl row c.args.left.now sum is
