use Rattle.cmh_cluster3.proofs.Going.{all_then}
use Rattle.cmh_cluster3.proofs.link.Link.take_turns.Goals as goal

pub returns-in-Still-Still : goal.returns-in-Still-Still
returns-in-Still-Still g c = all_then _ _ _ _ _ c.speak-spoken.ensures c.listen-heard.ensures

pub returns-in-Ended-default : goal.returns-in-Ended-default
returns-in-Ended-default g c = all_then _ _ _ _ _ c.speak-spoken.ensures c.listen-heard.ensures

pub returns-in_default : goal.returns-in_default
returns-in_default g c = all_then _ _ _ _ _ c.speak-spoken.ensures c.listen-heard.ensures

pub returns-in_default-2 : goal.returns-in_default-2
returns-in_default-2 g c = all_then _ _ _ _ _ c.speak-spoken.ensures c.listen-heard.ensures

pub returns-in_default-Ended : goal.returns-in_default-Ended
returns-in_default-Ended g c = all_then _ _ _ _ _ (all_then _ _ _ _ _ c.speak-spoken.ensures c.listen-heard.ensures) c.speak.ensures
