use Rattle.std.proofs.Common.{◌≡◌, ◌∙◌, ℕ, not, ◌==◌, List, ap, subst, sym, nat_cmp, Ok, Err}
use Rattle.std.specs.List.Sorted.{IsBinarySearchResult}
use Rattle.cmh_frames.specs.Relation.{Relation, only_firsts}
use Rattle.cmh_dependents.specs.Inner.Known.{Marks, known_of}
use Rattle.cmh_dependents.proofs.Known.{found, marked_less, missed, none_known, none_left, nothing_left, still_known, unmarked}
use Rattle.cmh_dependents.proofs.dependent_sets.DependentSets.clear.Goals as goal

pub returns-in-Ok : goal.returns-in-Ok
returns-in-Ok c =
    let ps = c.self.inside.processes.items in
    let lists = c.self.inside.lists.items in
    let place = c.in-Ok.place in
    let at = found ps c.args.process c.self.invariant.0.ascending place (subst (λ (xs : List ℕ). IsBinarySearchResult (λ y. nat_cmp y c.args.process) xs (Ok place)) c.deref.ensures.value c.in-Ok.ensures.position) in
    none_left ps lists c.self.invariant.0 place c.args.process at.0 at.1 c.clear.new.self c.clear.ensures
    ∙ ap (λ (r : Relation). only_firsts r (λ p. not (p == c.args.process))) c.self.view_is

pub returns-in_default : goal.returns-in_default
returns-in_default c =
    let ps = c.self.inside.processes.items in
    let lists = c.self.inside.lists.items in
    let none = missed ps c.args.process c.self.invariant.0.ascending c.in_default.field-0 (subst (λ (xs : List ℕ). IsBinarySearchResult (λ y. nat_cmp y c.args.process) xs (Err c.in_default.field-0)) c.deref.ensures.value c.in_default.ensures.position) in
    nothing_left ps lists c.args.process none
    ∙ ap (λ (r : Relation). only_firsts r (λ p. not (p == c.args.process))) c.self.view_is

pub returns-then-not-contains : goal.returns-then-not-contains
returns-then-not-contains c =
    let r = known_of c.self.inside.processes.items c.self.inside.lists.items in
    subst (λ (r : Relation). r ≡ only_firsts r (λ p. not (p == c.args.process))) c.self.view_is
    (none_known r c.args.process (unmarked c.self.inside.depended r c.args.process c.self.invariant.1 (sym c.if-not-contains.ensures)))

pub invariant_of-self : goal.invariant_of-self
invariant_of-self c =
    let ps = c.self.inside.processes.items in
    let lists = c.self.inside.lists.items in
    let place = c.in-Ok.place in
    let known = c.self.invariant.0 in
    let at = found ps c.args.process known.ascending place (subst (λ (xs : List ℕ). IsBinarySearchResult (λ y. nat_cmp y c.args.process) xs (Ok place)) c.deref.ensures.value c.in-Ok.ensures.position) in (
      still_known ps lists known place c.args.process at.0 at.1 c.clear.new.self,
      subst (Marks c.remove.new.self) (sym (none_left ps lists known place c.args.process at.0 at.1 c.clear.new.self c.clear.ensures))
          (marked_less c.self.inside.depended c.remove.new.self (known_of ps lists) c.args.process c.remove.ensures c.self.invariant.1),
    )

pub invariant_of-self-in_default : goal.invariant_of-self-in_default
invariant_of-self-in_default c =
    let ps = c.self.inside.processes.items in
    let lists = c.self.inside.lists.items in
    let none = missed ps c.args.process c.self.invariant.0.ascending c.in_default.field-0 (subst (λ (xs : List ℕ). IsBinarySearchResult (λ y. nat_cmp y c.args.process) xs (Err c.in_default.field-0)) c.deref.ensures.value c.in_default.ensures.position) in (
      c.self.invariant.0,
      subst (Marks c.remove.new.self) (sym (nothing_left ps lists c.args.process none))
          (marked_less c.self.inside.depended c.remove.new.self (known_of ps lists) c.args.process c.remove.ensures c.self.invariant.1),
    )
