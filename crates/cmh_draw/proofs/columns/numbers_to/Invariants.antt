use Rattle.std.proofs.Common.{◌≡◌, ◌<◌, length}
use Rattle.std.specs.List.{AllByRecursion}
use Rattle.cmh_frames.specs.Rules.{IsAscending}
use Rattle.cmh_draw.proofs.columns.numbers_to.Given as goal

abbrev pub invariant-loop-i : goal.invariant-loop-i
invariant-loop-i l = record {
  long : length l.columns.items ≡ l.i;
  below : AllByRecursion (λ y. y < l.i) l.columns.items;
  ascending : IsAscending l.columns.items;
}
