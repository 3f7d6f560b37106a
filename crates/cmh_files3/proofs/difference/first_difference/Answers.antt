use Rattle.std.proofs.Common.{rules}
use Rattle.cmh_files3.proofs.TurnLemmas.{differ_within}
use Rattle.cmh_files3.proofs.difference.first_difference.Goals as goal

pub returns-then-ne : goal.returns-then-ne
returns-then-ne c =
    differ_within c.args.left.now c.args.right.now c.loop-place.place c.index-left-place.result c.index-right-place.result (search rules) (search rules)
    c.index-left-place.is c.index-right-place.is c.loop-place.invariant (search rules)
