use Rattle.std.proofs.Common.{◌≡◌, map, take}
use Rattle.cmh_model3.specs.Journals.{sendings_of}
use Rattle.cmh_segment3.specs.Entries.{step_of}
use Rattle.cmh_files3.proofs.entries.messages_sent.Given as goal

abbrev pub invariant-loop-entry : goal.invariant-loop-entry
invariant-loop-entry l = l.messages.items ≡ sendings_of l.to (map step_of (take l.entry-index l.entries))
