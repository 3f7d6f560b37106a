use Rattle.std.proofs.Common.{◌≡◌, ◌≤◌, length, map, take}
use Rattle.cmh_model3.specs.Journals.{receipts_of}
use Rattle.cmh_segment3.specs.Entries.{step_of}
use Rattle.cmh_files3.proofs.entries.count_received.Given as goal

abbrev pub invariant-loop-entry : goal.invariant-loop-entry
invariant-loop-entry l =
    (l.count ≡ length (receipts_of l.from (map step_of (take l.entry-index l.entries)))) × (l.count ≤ l.entry-index)
