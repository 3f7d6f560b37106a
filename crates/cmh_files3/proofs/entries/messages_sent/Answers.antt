use Rattle.std.proofs.Common.{ℕ, List, ◌++◌, map, take, sym, ap, ◌∙◌}
use Rattle.cmh_model3.specs.declared.frame.Message.{Message}
use Rattle.cmh_model3.specs.Journals.{frames_to, sendings_of}
use Rattle.cmh_segment3.specs.Entries.{step_of}
use Rattle.cmh_files3.proofs.TurnLemmas.{sendings_next}
use Rattle.cmh_files3.proofs.entries.messages_sent.Goals as goal

pub loop-entry-preserved : goal.loop-entry-preserved
loop-entry-preserved c =
    let next = sendings_next c.args.to c.args.entries.now c.loop-entry.entry-index c.entry-item.result c.loop-entry-test.true c.entry-item.is in
    c.in_ok-push_to.ensures ∙ ap (λ (l : List Message). l ++ frames_to c.args.to c.as_slice.result.now) c.loop-entry.invariant
    ∙ ap (λ (l : List (ℕ × Message)). sendings_of c.args.to (map step_of (take c.loop-entry.entry-index c.args.entries.now)) ++ frames_to c.args.to l) c.as_slice.ensures
    ∙ sym next
