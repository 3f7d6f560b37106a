use Rattle.cmh_console.proofs.Spellings.{begins_none}
use Rattle.cmh_console.proofs.words.Words.number.Goals as goal

pub returns-in_err-number : goal.returns-in_err-number
returns-in_err-number c = rw c.from_residual.ensures (begins_none c.in_err-number.ensures)
