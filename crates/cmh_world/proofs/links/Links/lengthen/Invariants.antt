use Rattle.std.proofs.Common.{◌≤◌, length}
use Rattle.cmh_world.specs.Links.{SameQueues}
use Rattle.cmh_world.proofs.links.Links.lengthen.Given as goal

abbrev pub invariant-loop : goal.invariant-loop
invariant-loop l = record { long : l.counter ≤ length l.self-inside.rows.items; same : SameQueues l.fn.self l.self-inside.rows.items }
