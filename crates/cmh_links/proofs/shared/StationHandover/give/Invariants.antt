use Rattle.std.proofs.Common.{◌≤◌, length}
use Rattle.cmh_links.proofs.shared.StationHandover.give.Given as goal

abbrev pub invariant-loop-rest : goal.invariant-loop-rest
invariant-loop-rest g l = length l.rest ≤ length l.frames

abbrev pub decreases-loop-rest : goal.decreases-loop-rest
decreases-loop-rest g l = length l.rest
