use Rattle.std.proofs.Common.{◌≡◌, ◌++◌, take}
use Rattle.cmh_frames.specs.Journals.{frames_to}
use Rattle.cmh_files.proofs.before.push_to.Given as goal

abbrev pub invariant-loop-site : goal.invariant-loop-site
invariant-loop-site l = l.frames.items ≡ l.initial.frames.items ++ frames_to l.to (take l.site-index l.sent)
