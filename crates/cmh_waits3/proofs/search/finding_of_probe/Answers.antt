use Rattle.std.proofs.Common.{ℕ, sym, subst, ◌∙◌, true≢false}
use Rattle.cmh_waits3.specs.Inner.Steps.{AreReached}
use Rattle.cmh_waits3.proofs.Findings.{edges_are, passes_is, reaches_is}
use Rattle.cmh_waits3.proofs.search.finding_of_probe.Goals as goal
use Rattle.cmh_waits3.proofs.search.finding_of_probe.Goals.{else-is_reached-via-then-is_reached+else-passes, else-is_reached-via-else-is_reached}

pub returns-then-passes : goal.returns-then-passes
returns-then-passes c = λ home s w are.
    let v = c.args.waits.now in
    let n = c.args.stamp in
    let i = c.args.origin in
    let at = c.in-Some.ensures in
    let r = c.reach_from-reach.result in
    let reaches = subst (λ (p : ℕ). AreReached v n i p r.reached.words) at.1 c.reach_from-reach.ensures.reached in (
      (reaches_is home s w v are n i c.args.at c.in-Some.start r.reached.words reaches at.0 at.1 i).0 (c.is_reached.ensures.0 c.if-is_reached.true),
      passes_is home s w v are n i i ∙ sym c.passes.ensures ∙ c.if-passes.true,
    )

pub returns : goal.returns
returns c = λ home s w are.
    let v = c.args.waits.now in
    let n = c.args.stamp in
    let i = c.args.origin in
    let at = c.in-Some.ensures in
    let r = c.reach_from-reach.result in
    let reaches = subst (λ (p : ℕ). AreReached v n i p r.reached.words) at.1 c.reach_from-reach.ensures.reached in (
      λ h. elim c.else-is_reached.branch [
        | else-is_reached-via-then-is_reached+else-passes b ↦ true≢false (sym h.1 ∙ passes_is home s w v are n i i ∙ sym b.passes.ensures ∙ b.if-passes.false)
        | else-is_reached-via-else-is_reached b ↦ true≢false (sym (c.is_reached.ensures.1 ((reaches_is home s w v are n i c.args.at c.in-Some.start r.reached.words reaches at.0 at.1 i).1 h.0)) ∙ b.if-is_reached.false)
      ],
      edges_are home s w v are n i c.args.at c.in-Some.start r.reached.words reaches at.0 at.1 c.in_ok-edges_of.field-0.items c.in_ok-edges_of.ensures,
    )
