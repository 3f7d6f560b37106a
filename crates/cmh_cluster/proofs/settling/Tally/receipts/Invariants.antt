use Rattle.std.proofs.Common.{◌≡◌, ◌-◌, ◌^◌, min, take}
use Rattle.std.specs.Prelude.{sum_by}
use Rattle.cmh_cluster.proofs.settling.Tally.receipts.Given as goal

-- those so far
abbrev pub invariant-loop-row : goal.invariant-loop-row
invariant-loop-row l = l.count ≡ min (sum_by (λ row. sum_by (λ receipts. receipts.frames) row.items) (take l.row-index l.self.received.items)) (2 ^ 64 - 1)
