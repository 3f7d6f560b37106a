use Rattle.std.proofs.Common.{refl}
use Rattle.cmh_cluster3.proofs.Going.{all_same}
use Rattle.cmh_cluster3.proofs.link.Link.speak.Goals as goal

pub returns-in-None : goal.returns-in-None
returns-in-None g c = all_same _ _ _ _ refl
