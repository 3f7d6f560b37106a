use Rattle.cmh_console.proofs.Spellings.{begins_none, takes_named}
use Rattle.cmh_console.proofs.words.Words.process.Goals as goal

pub returns-in_err-digits : goal.returns-in_err-digits
returns-in_err-digits c = rw c.from_residual.ensures (begins_none c.in_err-digits.ensures)

pub returns : goal.returns
returns c = takes_named c.new.result c.in_ok-digits.ensures c.new.ensures
