use Rattle.std.proofs.Common.{◌≡◌, drop}
use Rattle.std.specs.List.{list_all}
use Rattle.cmh_draw.specs.Inner.Ways.{is_forward}
use Rattle.cmh_draw.proofs.arrows.go_forward.Given as goal

abbrev pub invariant-loop-arrow : goal.invariant-loop-arrow
invariant-loop-arrow l =
    list_all is_forward (drop l.arrow-index l.arrows) ≡ list_all is_forward l.arrows
