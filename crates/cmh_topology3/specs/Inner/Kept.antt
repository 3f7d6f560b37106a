-- What a topology keeps in its fields.
use Rattle.std.specs.Prelude.{◌≤◌, List, length, map}
use Rattle.std.specs.List.{AllByRecursion}
use Rattle.std.specs.List.Sorted.{IsStrictlyIncreasing}
use Rattle.cmh_frames.specs.Rows.{Row}
use Rattle.cmh_frames.specs.Inner.Kept.{AreApart, HasNumbers}
use Rattle.cmh_topology3.specs.Limits.{most_members, most_sites}

-- rows within the limits, ascending, and with nothing twice
pub record AreTidy (rows : List Row) : Type 0 where
  pub apart : AreApart rows
  pub sites_ascend : IsStrictlyIncreasing (map (λ (row : Row). row.0) rows)
  pub members_ascend : AllByRecursion (λ (row : Row). IsStrictlyIncreasing row.1) rows
  pub few_members : AllByRecursion (λ (row : Row). length row.1 ≤ most_members) rows
  pub few_sites : length rows ≤ most_sites
  pub numbers : AllByRecursion HasNumbers rows
