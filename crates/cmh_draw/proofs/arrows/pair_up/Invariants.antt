use Rattle.std.proofs.Common.{◌≡◌, [], ◌∷◌, ◌++◌, drop}
use Rattle.std.specs.Prelude.{option_map, slice_get}
use Rattle.cmh_draw.specs.Arrows as spec
use Rattle.cmh_draw.specs.Each.{each_from}
use Rattle.cmh_draw.specs.declared.mark.Arrow.{Arrow}
use Rattle.cmh_draw.proofs.arrows.pair_up.Given as goal

abbrev pub invariant-loop-place : goal.invariant-loop-place
invariant-loop-place l =
    l.all.items ++ each_from (λ place (arrow : Arrow). record arrow { got = option_map (spec.spot_of l.columns l.to.row l.to.site) (slice_get l.got place) } ∷ []) l.place (drop l.place l.sent)
    ≡ l.fn.all.items ++ spec.link_arrows (spec.spot_of l.columns l.to.row l.to.site) l.sent l.got
