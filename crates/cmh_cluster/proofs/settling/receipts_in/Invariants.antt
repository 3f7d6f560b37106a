use Rattle.std.proofs.Common.{◌≡◌, ◌-◌, ◌^◌, min, take}
use Rattle.std.specs.Prelude.{sum_by}
use Rattle.cmh_cluster.proofs.settling.receipts_in.Given as goal

-- those so far
abbrev pub invariant-loop-receipts : goal.invariant-loop-receipts
invariant-loop-receipts l = l.count ≡ min (sum_by (λ receipts. receipts.frames) (take l.receipts-index l.row)) (2 ^ 64 - 1)
