use Rattle.std.proofs.Common.{ℕ, List, ◌++◌, take, sym, ap, ◌∙◌}
use Rattle.cmh_frames.specs.declared.frame.Frame.{Frame}
use Rattle.cmh_frames.specs.Journals.{frames_to, sendings_of}
use Rattle.cmh_files.proofs.TurnLemmas.{sendings_next}
use Rattle.cmh_files.proofs.before.frames_sent.Goals as goal

pub loop-entry-preserved : goal.loop-entry-preserved
loop-entry-preserved c =
    let next = sendings_next c.args.to c.args.entries.now c.loop-entry.entry-index c.entry-item.result c.loop-entry-test.true c.entry-item.is in
    c.in_ok-push_to.ensures ∙ ap (λ (l : List Frame). l ++ frames_to c.args.to c.as_slice.result.now) c.loop-entry.invariant
    ∙ ap (λ (l : List (ℕ × Frame)). sendings_of c.args.to (take c.loop-entry.entry-index c.args.entries.now) ++ frames_to c.args.to l) c.as_slice.ensures
    ∙ sym next
