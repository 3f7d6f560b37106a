use Rattle.std.proofs.Common.{take, if◌then◌else◌, ◌==◌}
use Rattle.cmh_frames.specs.Laws.{count_of}
use Rattle.cmh_audit.specs.Turns.{Turns}
use Rattle.cmh_audit.proofs.waits.turn_all.Given as goal

abbrev pub invariant-loop-target : goal.invariant-loop-target
invariant-loop-target l = Turns l.fn.waits l.waits (λ j k. if l.asker == j then count_of (λ q. q == k) (take l.target-index l.targets) else 0)
