use Rattle.std.proofs.Common.{rules, ◌≡◌, ℕ, ◌+◌, ◌<◌, List, [], ◌∷◌, ◌++◌, sym, subst}
use Rattle.std.specs.List.{AllByRecursion}
use Rattle.cmh_frames.specs.Rules.{IsAscending}
use Rattle.cmh_draw.proofs.ColumnLemmas.{ascending_push, below_push}
use Rattle.cmh_draw.proofs.columns.numbers_to.Goals as goal

pub loop-i-preserved : goal.loop-i-preserved
loop-i-preserved c =
    let so_far = c.loop-i.columns.items in
    let pushed : c.push.new.self.items ≡ so_far ++ c.loop-i.i ∷ [] = c.in_ok-push.ensures.items in
    record {
      long = search rules;
      below = subst (λ (l : List ℕ). AllByRecursion (λ y. y < c.loop-i.i + 1) l) (sym pushed) (below_push c.loop-i.i so_far c.loop-i.invariant.below);
      ascending = subst IsAscending (sym pushed) (ascending_push c.loop-i.i so_far c.loop-i.invariant.below c.loop-i.invariant.ascending);
    }
