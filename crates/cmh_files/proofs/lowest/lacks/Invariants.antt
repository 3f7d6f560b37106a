use Rattle.std.proofs.Common.{ℕ, ◌<◌, ◌≤◌}
use Rattle.cmh_files.specs.Inner.Counts.{count_at}
use Rattle.cmh_files.specs.Inner.Steps.{walk_at}
use Rattle.cmh_files.proofs.lowest.lacks.Given as goal

abbrev pub invariant-loop-to : goal.invariant-loop-to
invariant-loop-to l = (b : ℕ) → b < l.to-index → count_at (walk_at l.walks b).got l.from.site ≤ count_at l.from.sent (walk_at l.walks b).site
