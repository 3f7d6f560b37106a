use Rattle.std.proofs.Common.{◌≡◌, ◌++◌, take}
use Rattle.cmh_model3.specs.Journals.{frames_to}
use Rattle.cmh_files3.proofs.entries.push_to.Given as goal

abbrev pub invariant-loop-site : goal.invariant-loop-site
invariant-loop-site l = l.messages.items ≡ l.initial.messages.items ++ frames_to l.to (take l.site-index l.sent)
