use Rattle.std.proofs.Common.{◌≡◌, ◌++◌, drop, map}
use Rattle.cmh_draw3.specs.Inner.Marks.{leaving_mark}
use Rattle.cmh_draw3.proofs.waiting.add_leaving.Given as goal

abbrev pub invariant-loop-asker : goal.invariant-loop-asker
invariant-loop-asker l =
    l.marks.items ++ map (leaving_mark l.topology l.declared) (drop l.asker-index l.leaving)
    ≡ l.fn.marks.items ++ map (leaving_mark l.topology l.declared) l.leaving
