use Rattle.std.proofs.Common.{◌≡◌, ◌∙◌, ℕ, not, ◌==◌, List, [], ap, subst, sym, arith, nat_cmp, Ok, Err}
use Rattle.std.specs.List.Sorted.{IsBinarySearchResult}
use Rattle.std.proofs.lemmas.List.{get_or_default}
use Rattle.std.specs.List.{filter}
use Rattle.cmh_frames.specs.Relation.{Relation, without_pair}
use Rattle.cmh_dependents.specs.Inner.Known.{Marks, known_of}
use Rattle.cmh_dependents.proofs.Known.{found, marked_without, missed, one_less, nothing_less, still_known}
use Rattle.cmh_dependents.proofs.dependent_sets.DependentSets.take_back.Goals as goal

pub returns-in-Ok : goal.returns-in-Ok
returns-in-Ok c =
    let ps = c.self.inside.processes.items in
    let lists = c.self.inside.lists.items in
    let place = c.in-Ok.place in
    let at = found ps c.args.process c.self.invariant.0.ascending place (subst (λ (xs : List ℕ). IsBinarySearchResult (λ y. nat_cmp y c.args.process) xs (Ok place)) c.deref.ensures.value c.in-Ok.ensures.position) in
    let was = c.index_mut.ensures.value ∙ get_or_default lists place c.index_mut.result.now [] (let inside = at.0 in let len = c.self.invariant.0.len in omega (arith, inside, len)) in
    one_less ps lists c.self.invariant.0 place c.args.process at.0 at.1 c.remove.new.self c.args.origin (c.remove.ensures ∙ ap (λ (xs : List ℕ). filter (λ q. not (q == c.args.origin)) xs) was)
    ∙ ap (λ (r : Relation). without_pair r c.args.process c.args.origin) c.self.view_is

pub returns-in_default : goal.returns-in_default
returns-in_default c =
    let ps = c.self.inside.processes.items in
    let lists = c.self.inside.lists.items in
    let none = missed ps c.args.process c.self.invariant.0.ascending c.in_default.field-0 (subst (λ (xs : List ℕ). IsBinarySearchResult (λ y. nat_cmp y c.args.process) xs (Err c.in_default.field-0)) c.deref.ensures.value c.in_default.ensures.position) in
    subst (λ (r : Relation). r ≡ without_pair r c.args.process c.args.origin) c.self.view_is (nothing_less ps lists c.args.process none c.args.origin)

pub invariant_of-self : goal.invariant_of-self
invariant_of-self c =
    let ps = c.self.inside.processes.items in
    let lists = c.self.inside.lists.items in
    let place = c.in-Ok.place in
    let known = c.self.invariant.0 in
    let at = found ps c.args.process known.ascending place (subst (λ (xs : List ℕ). IsBinarySearchResult (λ y. nat_cmp y c.args.process) xs (Ok place)) c.deref.ensures.value c.in-Ok.ensures.position) in
    let was = c.index_mut.ensures.value ∙ get_or_default lists place c.index_mut.result.now [] (let inside = at.0 in let len = known.len in omega (arith, inside, len)) in
    let less = c.remove.ensures ∙ ap (λ (xs : List ℕ). filter (λ q. not (q == c.args.origin)) xs) was in (
      still_known ps lists known place c.args.process at.0 at.1 c.remove.new.self,
      subst (Marks c.self.inside.depended) (sym (one_less ps lists known place c.args.process at.0 at.1 c.remove.new.self c.args.origin less))
          (marked_without c.self.inside.depended (known_of ps lists) c.args.process c.args.origin c.self.invariant.1),
    )
