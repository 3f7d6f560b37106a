-- Arrows that go forward in time.
use Rattle.std.proofs.Common.{◌≡◌, ℕ, nat_lt, true, ◌<◌, List, [], ◌∷◌, Option, None, Some, IfSome, ltb-true}
use Rattle.std.specs.List.{AllByRecursion, list_all}
use Rattle.std.specs.Option.{option_map_or}
use Rattle.std.proofs.lemmas.Bool.{and_parts}
use Rattle.cmh_draw.specs.Arrows.{IsForward}
use Rattle.cmh_draw.specs.Inner.Ways.{is_forward}
use Rattle.cmh_draw.specs.declared.mark.Arrow.{Arrow}
use Rattle.cmh_draw.specs.declared.mark.EntrySpot.{EntrySpot}

forward_where : (column : ℕ) (got : Option EntrySpot) → option_map_or (λ (at : EntrySpot). nat_lt column at.spot.column) got true ≡ true
    → IfSome got (λ (at : EntrySpot). column < at.spot.column)
forward_where column None is = tt
forward_where column (Some at) is = ltb-true column at.spot.column is

pub all_forward : (arrows : List Arrow) → list_all is_forward arrows ≡ true → AllByRecursion IsForward arrows
all_forward [] is = tt
all_forward (arrow ∷ arrows) is =
    let both = and_parts (is_forward arrow) (list_all is_forward arrows) is in
    (forward_where arrow.from.spot.column arrow.got both.0, all_forward arrows both.1)
