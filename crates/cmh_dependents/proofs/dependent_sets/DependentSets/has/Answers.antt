use Rattle.std.proofs.Common.{◌∙◌, ℕ, List, [], sym, ap, subst, arith, nat_cmp, Ok, Err}
use Rattle.std.specs.List.Sorted.{IsBinarySearchResult}
use Rattle.std.proofs.lemmas.List.{get_or_default}
use Rattle.cmh_frames.specs.Relation.{Relation, has}
use Rattle.cmh_waits.specs.Rows.{is_in}
use Rattle.cmh_dependents.proofs.Known.{found, missed, has_at, has_none}
use Rattle.cmh_dependents.proofs.dependent_sets.DependentSets.has.Goals as goal

pub returns-in-Ok : goal.returns-in-Ok
returns-in-Ok c =
    let ps = c.self.inside.processes.items in
    let lists = c.self.inside.lists.items in
    let place = c.in-Ok.place in
    let at = found ps c.args.process c.self.invariant.0.ascending place (subst (λ (xs : List ℕ). IsBinarySearchResult (λ y. nat_cmp y c.args.process) xs (Ok place)) c.deref.ensures.value c.in-Ok.ensures.position) in
    c.contains-in-Ok.ensures
    ∙ ap (λ (xs : List ℕ). is_in xs c.args.origin) (c.index.ensures ∙ get_or_default lists place c.index.result.now [] (let inside = at.0 in let len = c.self.invariant.0.len in omega (arith, inside, len)))
    ∙ sym (has_at ps lists c.self.invariant.0 place c.args.process c.args.origin at.0 at.1)
    ∙ ap (λ (r : Relation). has r c.args.process c.args.origin) c.self.view_is

pub returns-in-Err : goal.returns-in-Err
returns-in-Err c =
    let ps = c.self.inside.processes.items in
    let lists = c.self.inside.lists.items in
    sym (has_none ps lists c.args.process c.args.origin (missed ps c.args.process c.self.invariant.0.ascending c.in-Err.field-0 (subst (λ (xs : List ℕ). IsBinarySearchResult (λ y. nat_cmp y c.args.process) xs (Err c.in-Err.field-0)) c.deref.ensures.value c.in-Err.ensures.position)))
    ∙ ap (λ (r : Relation). has r c.args.process c.args.origin) c.self.view_is
