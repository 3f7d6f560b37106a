use Rattle.cmh_waits3.proofs.Summaries.{summary_begun}
use Rattle.cmh_waits3.proofs.summary.Summary.begin.Goals as goal

pub returns-clause-summary : goal.returns-clause-summary
returns-clause-summary c = summary_begun c.args.members.now c.args.targets.now c.args.since c.args.self.now _ c.with_processes.ensures c.earlier.ensures c.later.ensures
