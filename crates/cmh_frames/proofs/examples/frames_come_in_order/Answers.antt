use Rattle.cmh_frames.proofs.Scripts.{not_overtaken}
use Rattle.cmh_frames.proofs.examples.frames_come_in_order.Goals as goal

pub returns : goal.returns
returns c = record { no_run = not_overtaken }
