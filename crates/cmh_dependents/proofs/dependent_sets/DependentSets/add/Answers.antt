use Rattle.std.proofs.Common.{◌∙◌, ◌||◌, ◌==◌, ℕ, List, [], ap, arith, subst, sym}
use Rattle.std.proofs.lemmas.List.{get_or_default}
use Rattle.std.proofs.lemmas.Result.{on_ok_weaker}
use Rattle.cmh_frames.specs.Relation.{Relation, with_pair}
use Rattle.cmh_waits.specs.Rows.{is_in}
use Rattle.cmh_dependents.specs.Inner.Known.{Marks, known_of}
use Rattle.cmh_dependents.proofs.Known.{marked_at, marked_more, now_marked, one_more, still_known}
use Rattle.cmh_dependents.proofs.dependent_sets.DependentSets.add.Goals as goal

pub returns-clause-ok : goal.returns-clause-ok
returns-clause-ok c =
    let ps = c.place_for.new.processes.items in
    let lists = c.place_for.new.lists.items in
    let place = c.in_ok-place.place in
    let known = c.in_ok-place.ensures.known in
    let at = c.in_ok-place.ensures.place in
    let was = c.index_mut.ensures.value ∙ get_or_default lists place c.index_mut.result.now [] (let inside = at.0 in let len = known.len in omega (arith, inside, len)) in
    on_ok_weaker c.insert-2.result
    (λ more.
    one_more ps lists known place c.args.process at.0 at.1 c.insert-2.new.self c.args.origin (λ q. more q ∙ ap (λ (xs : List ℕ). (q == c.args.origin) || is_in xs q) was)
    ∙ ap (λ (r : Relation). with_pair r c.args.process c.args.origin) (c.in_ok-place.ensures.same ∙ c.self.view_is))
    c.insert-2.ensures.ok

pub invariant_of-self-2 : goal.invariant_of-self-2
invariant_of-self-2 c =
    let ps = c.place_for.new.processes.items in
    let lists = c.place_for.new.lists.items in
    let place = c.in_ok-place.place in
    let known = c.in_ok-place.ensures.known in
    let at = c.in_ok-place.ensures.place in
    let adds = c.in_ok-insert.ensures.ok in
    let old = c.self.inside.depended in
    let marked = c.insert.new.self in (
      still_known ps lists known place c.args.process at.0 at.1 c.insert-2.new.self,
      marked_at ps lists known place c.args.process at.0 at.1 c.insert-2.new.self marked (now_marked old marked c.args.process adds)
          (subst (Marks marked) (sym c.in_ok-place.ensures.same) (marked_more old marked c.args.process adds (known_of c.self.inside.processes.items c.self.inside.lists.items) c.self.invariant.1)),
    )
