use Rattle.std.proofs.Common.{◌≤◌, length}
use Rattle.cmh_merge.specs.Inner.Rows.{SameRow}
use Rattle.cmh_merge.proofs.queues.Row.lengthen.Given as goal

abbrev pub invariant-loop : goal.invariant-loop
invariant-loop g l = record { long : l.counter ≤ length l.self-inside.queues.items; same : SameRow l.fn.self l.self-inside.queues.items }
