use Rattle.std.proofs.Common.{◌≡◌, ◌++◌, ◌-◌, drop, length}
use Rattle.cmh_archive3.specs.Lines.{earlier_lines}
use Rattle.cmh_archive3.proofs.lines.add_earlier.Given as goal

-- the lines of those that are furthest back
abbrev pub invariant-loop-at : goal.invariant-loop-at
invariant-loop-at l = l.lines.items ≡ l.initial.lines.items ++ earlier_lines l.newest (drop (length l.earlier - l.at) l.earlier)
