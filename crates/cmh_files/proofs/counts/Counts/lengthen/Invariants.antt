use Rattle.std.proofs.Common.{◌≤◌, length}
use Rattle.cmh_files.specs.Inner.Counts.{SameCounts}
use Rattle.cmh_files.proofs.counts.Counts.lengthen.Given as goal

abbrev pub invariant-loop : goal.invariant-loop
invariant-loop l = record { long : l.counter ≤ length l.self-inside.counts.items; same : SameCounts l.fn.self l.self-inside.counts.items }
