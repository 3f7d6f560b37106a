use Rattle.std.proofs.Common.{◌≡◌, ◌++◌, drop, map}
use Rattle.cmh_draw.specs.Inner.Marks.{wait_mark}
use Rattle.cmh_draw.proofs.waiting.add_waits.Given as goal

abbrev pub invariant-loop-asker : goal.invariant-loop-asker
invariant-loop-asker l =
    l.marks.items ++ map (wait_mark l.topology l.report) (drop l.asker-index l.report.waits)
    ≡ l.fn.marks.items ++ map (wait_mark l.topology l.report) l.report.waits
