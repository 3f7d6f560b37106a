use Rattle.std.proofs.Common.{◌≡◌, take}
use Rattle.cmh_frames.specs.Journals.{sendings_of}
use Rattle.cmh_files.proofs.before.frames_sent.Given as goal

abbrev pub invariant-loop-entry : goal.invariant-loop-entry
invariant-loop-entry l = l.frames.items ≡ sendings_of l.to (take l.entry-index l.entries)
