use Rattle.std.proofs.Common.{ap}
use Rattle.cmh_cluster3.proofs.Going.{all_same}
use Rattle.cmh_cluster3.proofs.answering.Cluster.set_link.Goals as goal

pub returns-in-Join-clause-goes_on : goal.returns-in-Join-clause-goes_on
returns-in-Join-clause-goes_on g c = all_same _ _ _ _ (ap (λ nodes. nodes.items) c.join.ensures)
