use Rattle.std.proofs.Common.{refl, rules}
use Rattle.std.proofs.lemmas.Bool.{false≢true}
use Rattle.cmh_console.proofs.Spellings.{spell_begin, spell_more, spell_nothing}
use Rattle.cmh_console.proofs.Readings.{stops, reads}
use Rattle.cmh_script3.proofs.script.ask.Goals as goal

pub returns-in_default : goal.returns-in_default
returns-in_default c = stops (spell_begin c.args.words) c.in_default.ensures (λ line fits. search rules)

pub returns : goal.returns
returns c =
    let spell = rw c.in-Some-2.is at c.in_ok-targets.ensures in
    reads (spell_more (spell_begin c.args.words) c.in-Some.ensures) c.in-Some-2.targets spell
    (refl, (λ none. false≢true (c.if-is_empty.ensures.1 (spell_nothing c.process.new.self c.in-Some-2.targets spell none))), refl)
