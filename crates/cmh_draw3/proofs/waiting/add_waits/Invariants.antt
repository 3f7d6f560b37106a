use Rattle.std.proofs.Common.{◌≡◌, ◌++◌, drop, map}
use Rattle.cmh_draw3.specs.Inner.Marks.{wait_mark}
use Rattle.cmh_draw3.proofs.waiting.add_waits.Given as goal

abbrev pub invariant-loop-asker : goal.invariant-loop-asker
invariant-loop-asker l =
    l.marks.items ++ map (wait_mark l.topology l.declared) (drop l.asker-index l.waits)
    ≡ l.fn.marks.items ++ map (wait_mark l.topology l.declared) l.waits
