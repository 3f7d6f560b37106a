-- The marks of a process, as a list in which each origin stands once, in ascending order.
use Rattle.std.specs.Prelude.{ℕ, ◌<◌, List, map, take, drop}
use Rattle.std.specs.List.{AllByRecursion}
use Rattle.cmh_controller3.specs.declared.mark_row.Mark.{Mark}

abbrev pub origins_of : List Mark → List ℕ
origins_of ms = map (λ (m : Mark). m.origin) ms

-- in an ascending list, what stands before the place is below the origin, and what stands from it on is above
pub record IsPlaceFor (origin place : ℕ) (ms : List Mark) : Type 0 where
  pub below : AllByRecursion (λ i. i < origin) (origins_of (take place ms))
  pub above : AllByRecursion (λ i. origin < i) (origins_of (drop place ms))
