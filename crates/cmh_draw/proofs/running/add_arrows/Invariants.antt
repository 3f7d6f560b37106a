use Rattle.std.proofs.Common.{◌≡◌, ◌++◌, drop, map}
use Rattle.cmh_draw.specs.declared.mark.Mark.TheVariants.{Arrow}
use Rattle.cmh_draw.proofs.running.add_arrows.Given as goal

abbrev pub invariant-loop-arrow : goal.invariant-loop-arrow
invariant-loop-arrow l =
    l.marks.items ++ map Arrow (drop l.arrow-index l.arrows) ≡ l.fn.marks.items ++ map Arrow l.arrows
