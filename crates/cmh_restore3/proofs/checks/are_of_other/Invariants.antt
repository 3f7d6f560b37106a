use Rattle.std.proofs.Common.{◌≡◌, take}
use Rattle.std.specs.List.{All}
use Rattle.cmh_segment3.specs.declared.head.Head.{Head}
use Rattle.cmh_restore3.proofs.checks.are_of_other.Given as goal

-- the segments so far are of the world of the first
abbrev pub invariant-loop-head : goal.invariant-loop-head
invariant-loop-head l = All (λ (head : Head). head.header.world ≡ l.old) (take l.head-index l.heads)
