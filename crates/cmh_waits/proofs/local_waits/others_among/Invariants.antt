use Rattle.std.proofs.Common.{◌≡◌, not, take, filter}
use Rattle.cmh_waits.specs.Rows.{is_in}
use Rattle.cmh_waits.proofs.local_waits.others_among.Given as goal

-- those of the targets so far
abbrev pub invariant-loop-target : goal.invariant-loop-target
invariant-loop-target l = l.others.items ≡ filter (λ k. not (is_in l.members k)) (take l.target-index l.targets)
