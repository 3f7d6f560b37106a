use Rattle.std.proofs.Common.{◌≡◌, ◌-◌, ◌^◌, ◌++◌, ◌∷◌, [], List, length, min, take, ap, sym, subst, ◌∙◌}
use Rattle.std.proofs.lemmas.List.{take_more}
use Rattle.cmh_frames.specs.Journals.{frames_to, sendings_of}
use Rattle.cmh_frames.specs.Entries.{Entry}
use Rattle.cmh_cluster.proofs.Tallies.{sending_more}
use Rattle.cmh_cluster.proofs.settling.sendings_to.Goals as goal

pub loop-entry-preserved : goal.loop-entry-preserved
loop-entry-preserved c =
    let xs = c.args.entries.now in
    let i = c.loop-entry.entry-index in
    subst (λ (es : List Entry). c.saturating_add-count.result ≡ min (length (sendings_of c.args.to es)) (2 ^ 64 - 1))
    (ap (λ x. take i xs ++ x ∷ []) c.entry-item.is ∙ sym (take_more xs i c.entry-item.result c.loop-entry-test.true))
    (sending_more c.args.to (take i xs) c.entry-item.result c.loop-entry.count c.saturating_add-count.result c.frames_for.result c.loop-entry.invariant
    (c.frames_for.ensures ∙ ap (λ fs. min (length (frames_to c.args.to fs)) (2 ^ 64 - 1)) c.as_slice.ensures) c.saturating_add-count.ensures)
