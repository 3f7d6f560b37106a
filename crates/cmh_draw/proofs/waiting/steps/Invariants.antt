use Rattle.std.proofs.Common.{◌≡◌, drop}
use Rattle.cmh_draw.specs.Inner.Steps as inner
use Rattle.cmh_draw.proofs.waiting.steps.Given as goal

abbrev pub invariant-loop-i : goal.invariant-loop-i
invariant-loop-i l =
    inner.steps l.asker l.holder (drop l.i l.members) ≡ inner.steps l.asker l.holder l.members
