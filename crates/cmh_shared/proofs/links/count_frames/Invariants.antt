use Rattle.std.proofs.Common.{◌≡◌, ◌+◌, length, drop}
use Rattle.cmh_shared.proofs.Queuing.{sent_of}
use Rattle.cmh_shared.proofs.links.count_frames.Given as goal

abbrev pub invariant-loop-entry : goal.invariant-loop-entry
invariant-loop-entry g l = l.count + length (sent_of (drop l.entry-index l.entries)) ≡ length (sent_of l.entries)
