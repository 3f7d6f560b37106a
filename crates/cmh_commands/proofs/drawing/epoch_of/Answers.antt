use Rattle.std.proofs.Common.{Some, ap, ◌∙◌}
use Rattle.cmh_commands.proofs.EpochLemmas.{epoch_is}
use Rattle.cmh_commands.proofs.drawing.epoch_of.Goals as goal

pub returns-in-Some : goal.returns-in-Some
returns-in-Some c = λ epoch told. ap Some c.new.ensures ∙ epoch_is _ _ c.in-Some.ensures.none c.in-Some.ensures.some epoch told

pub returns-in-None : goal.returns-in-None
returns-in-None c = λ epoch told. epoch_is _ _ c.in-None.ensures.none c.in-None.ensures.some epoch told
