use Rattle.cmh_waits3.proofs.Copies.{summary_added}
use Rattle.cmh_waits3.proofs.summary.Summary.add.Goals as goal

pub returns : goal.returns
returns c = summary_added c.args.members.now c.args.wait.now c.args.self.now _ c.with_process.ensures c.earlier.ensures c.later.ensures
