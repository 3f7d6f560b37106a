use Rattle.std.proofs.Common.{◌≤◌, length}
use Rattle.cmh_audit3.specs.Inner.Queues.{SameQueues}
use Rattle.cmh_audit3.proofs.queues.Queues.lengthen.Given as goal

abbrev pub invariant-loop : goal.invariant-loop
invariant-loop l = record { long : l.counter ≤ length l.self-inside.rows.items; same : SameQueues l.fn.self l.self-inside.rows.items }
