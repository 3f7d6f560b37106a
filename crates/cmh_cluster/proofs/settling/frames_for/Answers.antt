use Rattle.std.proofs.Common.{◌≡◌, ◌-◌, ◌^◌, ◌++◌, ◌∷◌, [], List, length, min, take, ap, sym, subst, ◌∙◌}
use Rattle.std.proofs.lemmas.List.{take_more}
use Rattle.std.specs.Prelude.{ℕ}
use Rattle.cmh_frames.specs.declared.frame.Frame.{Frame}
use Rattle.cmh_frames.specs.Journals.{frames_to}
use Rattle.cmh_cluster.proofs.Tallies.{frame_elsewhere, frame_more}
use Rattle.cmh_cluster.proofs.settling.frames_for.Goals as goal
use Rattle.cmh_cluster.proofs.settling.frames_for.Goals.{then-eq, else-eq}

pub loop-to-preserved : goal.loop-to-preserved
loop-to-preserved c =
    let xs = c.args.frames.now in
    let i = c.loop-to.to-index in
    let so_far = c.loop-to.invariant in
    subst (λ (fs : List (ℕ × Frame)). c.if-eq.count ≡ min (length (frames_to c.args.site fs)) (2 ^ 64 - 1))
    (ap (λ x. take i xs ++ x ∷ []) c.loop-to-item.is ∙ sym (take_more xs i c.loop-to-item.result c.loop-to-test.true))
    (elim c.if-eq.branch [
      | then-eq w ↦ frame_more c.args.site (take i xs) c.loop-to-item.result c.loop-to.count c.if-eq.count so_far
          (sym c.eq.ensures ∙ w.if-eq.true) (w.count-is ∙ w.saturating_add-count.ensures)
      | else-eq w ↦ w.count-is ∙ frame_elsewhere c.args.site (take i xs) c.loop-to-item.result c.loop-to.count so_far (sym c.eq.ensures ∙ w.if-eq.false)
    ])
