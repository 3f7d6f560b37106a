use Rattle.std.proofs.Common.{◌≡◌, map}
use Rattle.cmh_restore3.specs.Restored.{restored}
use Rattle.cmh_restore3.proofs.checks.restored_all.Given as goal

-- so many were made
abbrev pub invariant-loop-head : goal.invariant-loop-head
invariant-loop-head l = l.segments.items ≡ map (restored l.topology l.epoch) l.yielded
