use Rattle.std.proofs.Common.{ℕ, sym, subst, ◌∙◌, true≢false}
use Rattle.cmh_waits3.specs.Inner.Steps.{AreReached}
use Rattle.cmh_waits3.proofs.Findings.{cycle_at, depends_is, edges_are}
use Rattle.cmh_waits3.proofs.search.finding_of_ask.Goals as goal

pub returns-then-has : goal.returns-then-has
returns-then-has c = λ home s w are.
    let v = c.args.waits.now in
    let n = c.args.stamp in
    let i = c.args.origin in
    let at = c.in-Some.ensures in
    let r = c.reach_from-reach.result in
    let reaches = subst (λ (p : ℕ). AreReached v n i p r.reached.words) at.1 c.reach_from-reach.ensures.reached in
    let cycle = cycle_at v n i i c.in-Some.start r.reached.words reaches at.0 at.1 r.awaited.words c.reach_from-reach.ensures.awaited in
    (depends_is home s w v are n i i).0 (cycle.0 (sym c.has.ensures ∙ c.if-has.true))

pub returns : goal.returns
returns c = λ home s w are.
    let v = c.args.waits.now in
    let n = c.args.stamp in
    let i = c.args.origin in
    let at = c.in-Some.ensures in
    let r = c.reach_from-reach.result in
    let reaches = subst (λ (p : ℕ). AreReached v n i p r.reached.words) at.1 c.reach_from-reach.ensures.reached in
    let cycle = cycle_at v n i i c.in-Some.start r.reached.words reaches at.0 at.1 r.awaited.words c.reach_from-reach.ensures.awaited in (
      λ d. true≢false (sym (cycle.1 ((depends_is home s w v are n i i).1 d)) ∙ sym c.has.ensures ∙ c.if-has.false),
      edges_are home s w v are n i i c.in-Some.start r.reached.words reaches at.0 at.1 c.in_ok-edges_of.field-0.items c.in_ok-edges_of.ensures,
    )
