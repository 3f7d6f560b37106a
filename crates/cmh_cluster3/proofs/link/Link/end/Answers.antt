use Rattle.cmh_cluster3.proofs.Going.{all_then}
use Rattle.cmh_cluster3.proofs.link.Link.end.Goals as goal

pub returns : goal.returns
returns g c = all_then _ _ _ _ _ c.end_at_receiver.ensures c.end_at_sender.ensures
