use Rattle.std.proofs.Common.{ℕ, sym, subst, ◌∙◌}
use Rattle.cmh_dependents.specs.Marks.{AreReached}
use Rattle.cmh_dependents.proofs.Awaited.{cycle_at}
use Rattle.cmh_dependents.proofs.reach.Reach.new.Goals as goal

pub returns-clause-places : goal.returns-clause-places
returns-clause-places c =
    let places = c.reached_from-found.result.reached in
    subst (λ (p : ℕ). AreReached c.args.waits.now p places) c.in-Some.ensures.place.1 c.reached_from-found.ensures.reached

pub returns-clause-on_cycle : goal.returns-clause-on_cycle
returns-clause-on_cycle c =
    let v = c.args.waits.now in
    let r = c.reached_from-found.result in
    let at = c.in-Some.ensures.place in
    let are = subst (λ (p : ℕ). AreReached v p r.reached) at.1 c.reached_from-found.ensures.reached in
    let cycle = cycle_at v c.in-Some.start c.args.from r.reached r.awaited at.0 at.1 are c.reached_from-found.ensures.awaited in
    (λ h. cycle.0 (sym c.has_bit.ensures ∙ h), λ d. c.has_bit.ensures ∙ cycle.1 d)
