use Rattle.std.proofs.Common.{◌≡◌, ℕ, ◌+◌, length}
use Rattle.cmh_frames.specs.Journals.{frames_to}
use Rattle.cmh_files.specs.Inner.Counts.{count_at}
use Rattle.cmh_files.proofs.walk.count_sent.Given as goal

-- with the frames that are left, each count is that of all
abbrev pub invariant-loop-to : goal.invariant-loop-to
invariant-loop-to l = (s : ℕ) → count_at l.sent s + length (frames_to s l.left.sent) ≡ count_at l.fn.sent s + length (frames_to s l.entry.sent)

abbrev pub decreases-loop-to : goal.decreases-loop-to
decreases-loop-to l = length l.left.sent
