use Rattle.std.proofs.Common.{refl}
use Rattle.cmh_cluster3.proofs.Going.{all_same, all_then}
use Rattle.cmh_cluster3.proofs.link.Link.carry.Goals as goal

pub returns-then-is_none : goal.returns-then-is_none
returns-then-is_none g c = all_same _ _ _ _ refl

pub returns-in-Ended : goal.returns-in-Ended
returns-in-Ended g c = all_then _ _ _ _ _ c.take_turns.ensures c.end.ensures
