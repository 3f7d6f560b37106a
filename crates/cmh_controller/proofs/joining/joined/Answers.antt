use Rattle.std.proofs.Common.{◌≡◌, ℕ, ◌==◌, List, sym, ap, ◌∙◌, subst, rules}
use Rattle.std.specs.List.{list_any, dedup}
use Rattle.std.specs.List.Sorted.{IsStrictlyIncreasing}
use Rattle.std.proofs.lemmas.Bool.{eqb-true}
use Rattle.std.proofs.lemmas.List.Folds.{list_any-append}
use Rattle.std.proofs.lemmas.List.Filters.{dedup_is}
use Rattle.std.proofs.lemmas.List.Sorted.{list_any-IsPermutation}
use Rattle.std.proofs.lemmas.Map.Keys.{IsStrictlyIncreasing-dedup}
use Rattle.cmh_controller.proofs.Deduped.{any-dedup}
use Rattle.cmh_controller.proofs.joining.joined.Goals as goal

pub returns-clause-ascending : goal.returns-clause-ascending
returns-clause-ascending c =
    let left : c.dedup.new.self.items ≡ dedup (λ x y. x == y) c.sort_unstable.new.self.items = dedup_is (λ x y. x == y) _ _ c.dedup.ensures.filtered in
    subst (λ (xs : List ℕ). IsStrictlyIncreasing xs) (sym left) (IsStrictlyIncreasing-dedup c.sort_unstable.new.self.items c.sort_unstable.ensures.sorted)

pub returns-clause-all : goal.returns-clause-all
returns-clause-all c p =
    let left : c.dedup.new.self.items ≡ dedup (λ x y. x == y) c.sort_unstable.new.self.items = dedup_is (λ x y. x == y) _ _ c.dedup.ensures.filtered in
    ap (list_any (λ y. y == p)) left
    ∙ any-dedup (λ x y. x == y) (λ y. y == p) (λ x y e. ap (λ z. z == p) (eqb-true x y e)) c.sort_unstable.new.self.items
    ∙ sym (list_any-IsPermutation (λ y. y == p) _ _ c.sort_unstable.ensures.permutation)
    ∙ ap (list_any (λ y. y == p)) (search rules)
    ∙ list_any-append (λ y. y == p) c.args.first.items c.args.second.now
