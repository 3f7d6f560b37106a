use Rattle.std.proofs.Common.{ℕ, List, [], ◌∷◌, ◌++◌, take, subst, sym, ap, ◌∙◌}
use Rattle.std.proofs.lemmas.List.{take_more}
use Rattle.cmh_merge.specs.Inner.Takings.{SendsFrames}
use Rattle.cmh_merge.proofs.Takings.{sends_more}
use Rattle.cmh_merge.proofs.taking.send_all.Goals as goal

pub loop-to-preserved : goal.loop-to-preserved
loop-to-preserved g c =
    subst (λ (sent : List (ℕ × g.row.F.Denot)). SendsFrames c.args.site sent c.args.queues.now c.send.new.self)
    (ap (λ x. take c.loop-to.to-index c.args.sent.now ++ x ∷ []) c.loop-to-item.is ∙ sym (take_more c.args.sent.now c.loop-to.to-index c.loop-to-item.result c.loop-to-test.true))
    (sends_more c.args.site c.loop-to-item.result.0 c.loop-to-item.result.1 _ c.args.queues.now c.loop-to.queues c.send.new.self c.loop-to.invariant c.in_ok-send.ensures.ok)
