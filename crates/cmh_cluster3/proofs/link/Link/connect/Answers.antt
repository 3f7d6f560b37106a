use Rattle.std.proofs.Common.{refl}
use Rattle.cmh_cluster3.proofs.Going.{all_same}
use Rattle.cmh_cluster3.proofs.link.Link.connect.Goals as goal

pub returns-then-self : goal.returns-then-self
returns-then-self g c = all_same _ _ _ _ refl

pub returns-in_default : goal.returns-in_default
returns-in_default g c = all_same _ _ _ _ refl
