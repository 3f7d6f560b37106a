use Rattle.std.proofs.Common.{◌≡◌, ◌≤◌, length, take}
use Rattle.cmh_frames.specs.Journals.{receipts_of}
use Rattle.cmh_files.proofs.before.count_received.Given as goal

abbrev pub invariant-loop-entry : goal.invariant-loop-entry
invariant-loop-entry l =
    (l.count ≡ length (receipts_of l.from (take l.entry-index l.entries))) × (l.count ≤ l.entry-index)
