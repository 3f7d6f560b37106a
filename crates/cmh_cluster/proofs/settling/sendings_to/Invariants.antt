use Rattle.std.proofs.Common.{◌≡◌, ◌-◌, ◌^◌, length, min, take}
use Rattle.cmh_frames.specs.Journals.{sendings_of}
use Rattle.cmh_cluster.proofs.settling.sendings_to.Given as goal

-- those so far
abbrev pub invariant-loop-entry : goal.invariant-loop-entry
invariant-loop-entry l = l.count ≡ min (length (sendings_of l.to (take l.entry-index l.entries))) (2 ^ 64 - 1)
