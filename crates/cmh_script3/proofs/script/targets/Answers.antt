use Rattle.std.proofs.lemmas.Bool.{false≢true}
use Rattle.cmh_console.proofs.Spellings.{spell_more, spell_none}
use Rattle.cmh_script3.proofs.script.targets.Goals as goal

pub returns-in_default : goal.returns-in_default
returns-in_default c = spell_none c.loop-words.invariant (λ end. false≢true (c.loop-words-test.ensures.1 end)) c.in_default.ensures

pub loop-words-preserved : goal.loop-words-preserved
loop-words-preserved c = rw c.in_ok-push.ensures.items (spell_more c.loop-words.invariant c.in-Some.ensures)
