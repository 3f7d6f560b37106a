use Rattle.cmh_wire3.proofs.Marks.{changed_byte_shows}
use Rattle.cmh_wire3.proofs.laws.mark_law.Goals as goal

pub returns : goal.returns
returns c = changed_byte_shows
