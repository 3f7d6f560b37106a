use Rattle.std.proofs.Common.{refl}
use Rattle.cmh_cluster3.proofs.Going.{all_same}
use Rattle.cmh_cluster3.proofs.link.Link.end_at_sender.Goals as goal

pub returns-in_default : goal.returns-in_default
returns-in_default g c = all_same _ _ _ _ refl
