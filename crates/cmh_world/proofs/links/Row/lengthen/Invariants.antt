use Rattle.std.proofs.Common.{◌≤◌, length}
use Rattle.cmh_world.specs.Links.{SameRow}
use Rattle.cmh_world.proofs.links.Row.lengthen.Given as goal

abbrev pub invariant-loop : goal.invariant-loop
invariant-loop l = record { long : l.counter ≤ length l.self-inside.queues.items; same : SameRow l.fn.self l.self-inside.queues.items }
