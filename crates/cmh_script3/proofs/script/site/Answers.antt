use Rattle.std.proofs.Common.{rules}
use Rattle.cmh_console.proofs.Spellings.{spell_begin}
use Rattle.cmh_console.proofs.Readings.{stops}
use Rattle.cmh_script3.proofs.script.site.Goals as goal

pub returns-in_default : goal.returns-in_default
returns-in_default c = stops (spell_begin c.args.words) c.in_default.ensures (λ line fits. search rules)
