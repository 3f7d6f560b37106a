use Rattle.std.proofs.Common.{◌≤◌, length}
use Rattle.cmh_files3.specs.Inner.Taken.{SameTaken}
use Rattle.cmh_files3.proofs.taken.Taken.lengthen.Given as goal

abbrev pub invariant-loop : goal.invariant-loop
invariant-loop l = record { long : l.counter ≤ length l.self-inside.counts.items; same : SameTaken l.fn.self l.self-inside.counts.items }
