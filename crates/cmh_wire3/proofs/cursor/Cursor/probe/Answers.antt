use Rattle.cmh_wire3.proofs.Frames.{no_probe}
use Rattle.cmh_wire3.proofs.cursor.Cursor.probe.Goals as goal

pub returns-in_default : goal.returns-in_default
returns-in_default c = no_probe _ _ _ _ _ c.in_ok-stamp.ensures.bytes_are c.in_ok-origin.ensures.bytes_are c.in_default.ensures
