use Rattle.cmh_script3.proofs.Forms.{deliver_link}
use Rattle.cmh_console.proofs.Readings.{reads_neither}
use Rattle.cmh_script3.proofs.script.deliver.Goals as goal

pub returns-in_err-from : goal.returns-in_err-from
returns-in_err-from c = rw c.from_residual.ensures (reads_neither deliver_link c.in_err-from.ensures)
