use Rattle.std.proofs.Common.{rules}
use Rattle.cmh_console.proofs.Spellings.{spell_begin, spell_more}
use Rattle.cmh_console.proofs.Readings.{stops, goes_on}
use Rattle.cmh_script3.proofs.script.reply.Goals as goal

pub returns-in_err-holder : goal.returns-in_err-holder
returns-in_err-holder c = rw c.from_residual.ensures (stops (spell_begin c.args.words) c.in_err-holder.ensures (λ line fits. search rules))

pub returns-in_err-asker : goal.returns-in_err-asker
returns-in_err-asker c = rw c.from_residual-in_err-asker.ensures
    (stops (spell_more (spell_begin c.args.words) c.in_ok-holder.ensures) c.in_err-asker.ensures (λ line fits. search rules))

pub returns-in_err-end : goal.returns-in_err-end
returns-in_err-end c = rw c.from_residual-in_err-end.ensures
    (goes_on (spell_more (spell_more (spell_begin c.args.words) c.in_ok-holder.ensures) c.in_ok-asker.ensures) c.in_err-end.ensures.none (λ n ns line fits. search rules))
