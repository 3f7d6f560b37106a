use Rattle.std.proofs.Common.{◌≡◌, ◌-◌, ◌^◌, length, min, take}
use Rattle.cmh_frames.specs.Journals.{receipts_of}
use Rattle.cmh_cluster.proofs.settling.receipts_from.Given as goal

-- those so far
abbrev pub invariant-loop-entry : goal.invariant-loop-entry
invariant-loop-entry l = l.count ≡ min (length (receipts_of l.from (take l.entry-index l.entries))) (2 ^ 64 - 1)
