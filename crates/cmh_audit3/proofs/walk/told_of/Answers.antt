use Rattle.std.proofs.Common.{ap}
use Rattle.cmh_model3.specs.Journals.{message_from}
use Rattle.cmh_audit3.proofs.walk.told_of.Goals as goal

pub returns-in-Got : goal.returns-in-Got
returns-in-Got c = (record { clock = c.in-Got.clock; frame = c.in-Got.frame }, λ a. ap (message_from a) c.in-Got.is)
