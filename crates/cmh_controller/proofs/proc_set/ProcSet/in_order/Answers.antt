use Rattle.std.proofs.Common.{◌≡◌, ℕ, List, ◌==◌, sym, ap, ◌∙◌, subst, rules}
use Rattle.std.specs.FinSet as set
use Rattle.std.specs.List.{list_any, dedup}
use Rattle.std.specs.List.Sorted.{IsStrictlyIncreasing}
use Rattle.std.proofs.lemmas.Bool.{eqb-true}
use Rattle.std.proofs.lemmas.List.Filters.{dedup_is}
use Rattle.std.proofs.lemmas.List.Sorted.{list_any-IsPermutation}
use Rattle.std.proofs.lemmas.Map.Keys.{IsStrictlyIncreasing-dedup}
use Rattle.cmh_frames.specs.Relation.{Numbers}
use Rattle.cmh_frames.proofs.Members.{found_at, found_from}
use Rattle.cmh_controller.proofs.Deduped.{any-dedup}
use Rattle.cmh_controller.proofs.proc_set.ProcSet.in_order.Goals as goal

pub returns-clause-ascending : goal.returns-clause-ascending
returns-clause-ascending c =
    let left : c.dedup.new.self.items ≡ dedup (λ x y. x == y) c.sort_unstable.new.self.items = dedup_is (λ x y. x == y) _ _ c.dedup.ensures.filtered in
    subst (λ (xs : List ℕ). IsStrictlyIncreasing xs) (sym left) (IsStrictlyIncreasing-dedup c.sort_unstable.new.self.items c.sort_unstable.ensures.sorted)

pub returns-clause-all : goal.returns-clause-all
returns-clause-all c p =
    let left : c.dedup.new.self.items ≡ dedup (λ x y. x == y) c.sort_unstable.new.self.items = dedup_is (λ x y. x == y) _ _ c.dedup.ensures.filtered in
    let same : list_any (λ y. y == p) c.dedup.new.self.items ≡ set.contains c.args.self.now p =
    ap (list_any (λ y. y == p)) left
    ∙ any-dedup (λ x y. x == y) (λ y. y == p) (λ x y e. ap (λ z. z == p) (eqb-true x y e)) c.sort_unstable.new.self.items
    ∙ sym (list_any-IsPermutation (λ y. y == p) _ _ c.sort_unstable.ensures.permutation)
    ∙ ap (list_any (λ y. y == p)) (c.in_ok-processes.ensures.items_if_clones_equal (λ y k. search rules) ∙ c.deref.ensures.value)
    ∙ sym (set.contains-from_list_nat c.self.inside.processes.items p)
    ∙ ap (λ (s : Numbers). set.contains s p) c.self.view_is in
    (λ found. sym same ∙ found_from c.dedup.new.self.items p found, λ found. found_at c.dedup.new.self.items p (same ∙ found))
