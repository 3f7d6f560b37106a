use Rattle.std.proofs.Common.{rules}
use Rattle.cmh_console.proofs.Spellings.{spell_begin, spell_more}
use Rattle.cmh_console.proofs.Readings.{stops, goes_on}
use Rattle.cmh_script3.proofs.script.link.Goals as goal

pub returns-in_err-from : goal.returns-in_err-from
returns-in_err-from c = rw c.from_residual.ensures (stops (spell_begin c.args.words) c.in_err-from.ensures (λ ends is. search rules))

pub returns-in_err-to : goal.returns-in_err-to
returns-in_err-to c = rw c.from_residual-in_err-to.ensures
    (stops (spell_more (spell_begin c.args.words) c.in_ok-from.ensures) c.in_err-to.ensures (λ ends is. search rules))

pub returns-in_err-end : goal.returns-in_err-end
returns-in_err-end c = rw c.from_residual-in_err-end.ensures
    (goes_on (spell_more (spell_more (spell_begin c.args.words) c.in_ok-from.ensures) c.in_ok-to.ensures) c.in_err-end.ensures.none (λ n ns ends is. search rules))
