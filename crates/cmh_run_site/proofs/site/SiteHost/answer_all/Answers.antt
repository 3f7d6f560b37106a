use Rattle.std.proofs.Common.{inr, refl, rules, sym, ◌∙◌}
use Rattle.cmh_console.specs.declared.dialogue.DialogueFault.TheVariants.{Input}
use Rattle.cmh_console.proofs.Dialogues.{talked_all, talked_fault_err, talked_more, talked_to_end}
use Rattle.cmh_run_site.proofs.Linking.{led_there}
use Rattle.cmh_run_site.proofs.Waiting.{all_told, answered_line, endless_wait, turn_anew, unread_waiting, waited_err, waited_failed, waited_some, waits_begin, waits_on}
use Rattle.cmh_run_site.proofs.site.SiteHost.answer_all.Goals as goal
use Rattle.cmh_run_site.proofs.site.SiteHost.answer_all.Goals.{in-Ok+in_ok-push-in-Ok+then-len-ge-BATCH_LIMIT+in_ok-answer_waiting-in-Ok, then-len-ge-BATCH_LIMIT-via-then-len-ge-BATCH_LIMIT, then-len-ge-BATCH_LIMIT-via-else-len-ge-BATCH_LIMIT+then-not-has_line, in-Ok+in_ok-push-in-Ok+else-len-ge-BATCH_LIMIT+else-not-has_line, in-Err+in_ok-answer_waiting-in-Err+in_ok-answer-in-Err+in-Awaits}

pub loop-turn-init : goal.loop-turn-init
loop-turn-init g c = let w = waits_begin _ _ _ _ _ _ c.new-events.ensures.items in (refl, refl, w.0, w.1, c.requires.to_others)

pub returns-in_err-next-clause-answers : goal.returns-in_err-next-clause-answers
returns-in_err-next-clause-answers g c = waited_err _ _ _ _ _ _ _ c.loop-turn.self.has_connected c.loop-turn.events.items c.loop-turn.turn c.loop-turn.invariant.3 _ _ c.from_residual.ensures.0

pub returns-in_err-next-clause-fault : goal.returns-in_err-next-clause-fault
returns-in_err-next-clause-fault g c =
    unread_waiting _ _ _ _ _ _ _ c.loop-turn.self.has_connected c.loop-turn.events.items c.loop-turn.turn c.loop-turn.invariant.3 _ _ c.from_residual.result c.in_err-next.field-0.0 c.from_residual.ensures.1 c.in_err-next.ensures.fault

pub returns-in_err-answer_waiting-clause-answers : goal.returns-in_err-answer_waiting-clause-answers
returns-in_err-answer_waiting-clause-answers g c =
    waited_failed _ _ _ _ _ _ _ c.loop-turn.self.has_connected c.loop-turn.events.items c.loop-turn.turn c.loop-turn.invariant.3 _ _ _ c.from_residual-in_err-answer_waiting.ensures.0 c.in_err-answer_waiting.ensures.fault

pub returns-then-is_end-clause-answers : goal.returns-then-is_end-clause-answers
returns-then-is_end-clause-answers g c =
    talked_all _ _ _ _ _ _ _ c.loop-turn.self.has_connected c.loop-turn.turn (all_told _ _ _ _ _ _ _ c.loop-turn.self.has_connected c.loop-turn.events.items c.loop-turn.turn c.loop-turn.invariant.3 _ c.in_ok-answer_waiting.ensures.answered) c.in_ok-next.next _
    c.in_ok-next.ensures.line (c.is_end.ensures.yes c.if-is_end.true)

pub returns-in_err-said-clause-answers : goal.returns-in_err-said-clause-answers
returns-in_err-said-clause-answers g c = waited_err _ _ _ _ _ _ _ c.loop-turn.self.has_connected c.loop-turn.events.items c.loop-turn.turn c.loop-turn.invariant.3 _ _ c.from_residual-in_err-said.ensures.0

pub returns-in_err-push-in-Ok-clause-answers : goal.returns-in_err-push-in-Ok-clause-answers
returns-in_err-push-in-Ok-clause-answers g c = waited_err _ _ _ _ _ _ _ c.loop-turn.self.has_connected c.loop-turn.events.items c.loop-turn.turn c.loop-turn.invariant.3 _ _ c.from_residual-in_err-push-in-Ok.ensures.0

pub returns-in_err-answer_waiting-in-Ok-clause-answers : goal.returns-in_err-answer_waiting-in-Ok-clause-answers
returns-in_err-answer_waiting-in-Ok-clause-answers g c =
    waited_failed _ _ _ _ _ _ _ c.loop-turn.self.has_connected c.loop-turn.events.items c.loop-turn.turn c.loop-turn.invariant.3 _ _ _ c.from_residual-in_err-answer_waiting-in-Ok.ensures.0
    c.in_err-answer_waiting-in-Ok.ensures.fault

pub returns-in_err-answer_waiting-in-Err-clause-answers : goal.returns-in_err-answer_waiting-in-Err-clause-answers
returns-in_err-answer_waiting-in-Err-clause-answers g c =
    waited_failed _ _ _ _ _ _ _ c.loop-turn.self.has_connected c.loop-turn.events.items c.loop-turn.turn c.loop-turn.invariant.3 _ _ _ c.from_residual-in_err-answer_waiting-in-Err.ensures.0
    c.in_err-answer_waiting-in-Err.ensures.fault

pub returns-in_err-answer-in-Err-clause-answers : goal.returns-in_err-answer-in-Err-clause-answers
returns-in_err-answer-in-Err-clause-answers g c =
    talked_fault_err _ _ _ _ _ _ _ c.loop-turn.self.has_connected c.loop-turn.turn (all_told _ _ _ _ _ _ _ c.loop-turn.self.has_connected c.loop-turn.events.items c.loop-turn.turn c.loop-turn.invariant.3 _ c.in_ok-answer_waiting-in-Err.ensures.answered) _ _ c.from_residual-in_err-answer-in-Err.result c.in_err-answer-in-Err.field-0.0
    c.from_residual-in_err-answer-in-Err.ensures.1 c.in_err-answer-in-Err.ensures.fault

pub returns-in-Ends-clause-answers : goal.returns-in-Ends-clause-answers
returns-in-Ends-clause-answers g c =
    talked_to_end _ _ _ _ _ _ _ c.loop-turn.self.has_connected c.loop-turn.turn (all_told _ _ _ _ _ _ _ c.loop-turn.self.has_connected c.loop-turn.events.items c.loop-turn.turn c.loop-turn.invariant.3 _ c.in_ok-answer_waiting-in-Err.ensures.answered) _ c.in_ok-next.next c.answer.new.self.has_connected c.in_ok-answer-in-Err.field-0 _
    c.in_ok-next.ensures.line (c.is_end.ensures.no c.if-is_end.false) c.in-Ends.is
    (answered_line _ _ _ _ _ _ _ _ _ _ c.in-Err.said c.loop-turn.invariant.0 c.loop-turn.invariant.1 (rw (sym c.in-Err.ensures.other) at c.in_ok-said.ensures) c.in_ok-answer-in-Err.ensures.answers)

pub loop-turn-preserved : goal.loop-turn-preserved
loop-turn-preserved g c = elim c.match-event_of.branch [
  | in-Ok+in_ok-push-in-Ok+then-len-ge-BATCH_LIMIT+in_ok-answer_waiting-in-Ok w ↦ rw w.self-is (rw w.input-is (rw w.out-is (rw w.events-is (elim w.then-len-ge-BATCH_LIMIT.branch [
    | then-len-ge-BATCH_LIMIT-via-then-len-ge-BATCH_LIMIT w' ↦ rw w'.input-is (turn_anew _ _ _ _ _ _ _ _ _ _ _ _ _ c.loop-turn.invariant.0 c.loop-turn.invariant.1 c.loop-turn.invariant.4 w.in_ok-answer_waiting-in-Ok.ensures.none
        (all_told _ _ _ _ _ _ _ c.loop-turn.self.has_connected _ _ (waits_on _ _ _ _ _ _ _ c.loop-turn.self.has_connected c.loop-turn.events.items c.loop-turn.turn c.loop-turn.invariant.3 c.read_line.new.input.left _ _ c.in_ok-next.next c.in_ok-said.said w.in-Ok.event
        refl w.in_ok-push-in-Ok.ensures.items c.in_ok-next.ensures.line c.in_ok-next.ensures.rest (c.is_end.ensures.no c.if-is_end.false)
        c.in_ok-said.ensures w.in-Ok.ensures.event) _ w.in_ok-answer_waiting-in-Ok.ensures.answered))
    | then-len-ge-BATCH_LIMIT-via-else-len-ge-BATCH_LIMIT+then-not-has_line w' ↦ rw w'.input-is (turn_anew _ _ _ _ _ _ _ _ _ _ _ _ _ c.loop-turn.invariant.0 c.loop-turn.invariant.1 c.loop-turn.invariant.4 w.in_ok-answer_waiting-in-Ok.ensures.none
        (all_told _ _ _ _ _ _ _ c.loop-turn.self.has_connected _ _ (waits_on _ _ _ _ _ _ _ c.loop-turn.self.has_connected c.loop-turn.events.items c.loop-turn.turn c.loop-turn.invariant.3 c.read_line.new.input.left _ _ c.in_ok-next.next c.in_ok-said.said w.in-Ok.event
        w'.has_line.ensures.left w.in_ok-push-in-Ok.ensures.items c.in_ok-next.ensures.line c.in_ok-next.ensures.rest (c.is_end.ensures.no c.if-is_end.false)
        c.in_ok-said.ensures w.in-Ok.ensures.event) _ w.in_ok-answer_waiting-in-Ok.ensures.answered))
  ]))))
  | in-Ok+in_ok-push-in-Ok+else-len-ge-BATCH_LIMIT+else-not-has_line w ↦ rw w.self-is (rw w.input-is (rw w.out-is (rw w.events-is (
    c.loop-turn.invariant.0,
    c.loop-turn.invariant.1,
    search rules,
    (waits_on _ _ _ _ _ _ _ c.loop-turn.self.has_connected c.loop-turn.events.items c.loop-turn.turn c.loop-turn.invariant.3 c.read_line.new.input.left _ _ c.in_ok-next.next c.in_ok-said.said w.in-Ok.event
        w.has_line.ensures.left w.in_ok-push-in-Ok.ensures.items c.in_ok-next.ensures.line c.in_ok-next.ensures.rest (c.is_end.ensures.no c.if-is_end.false)
        c.in_ok-said.ensures w.in-Ok.ensures.event),
    c.loop-turn.invariant.4,
  ))))
  | in-Err+in_ok-answer_waiting-in-Err+in_ok-answer-in-Err+in-Awaits w ↦ rw w.self-is (rw w.input-is (rw w.out-is (rw w.events-is (
      turn_anew _ _ _ _ _ _ _ _ _ _ _ _ _ (w.answer.ensures.topology ∙ c.loop-turn.invariant.0) (w.answer.ensures.site ∙ c.loop-turn.invariant.1)
      (led_there _ _ _ _ _ c.loop-turn.invariant.0 c.loop-turn.invariant.1 w.answer.ensures.to_others) w.in_ok-answer_waiting-in-Err.ensures.none
      (talked_more _ _ _ _ _ _ _ c.loop-turn.self.has_connected c.loop-turn.turn (all_told _ _ _ _ _ _ _ c.loop-turn.self.has_connected c.loop-turn.events.items c.loop-turn.turn c.loop-turn.invariant.3 _ w.in_ok-answer_waiting-in-Err.ensures.answered) _ _ c.in_ok-next.next w.answer.new.self.has_connected w.in_ok-answer-in-Err.field-0 c.in_ok-next.ensures.line
      c.in_ok-next.ensures.rest (c.is_end.ensures.no c.if-is_end.false) w.in-Awaits.is
      (answered_line _ _ _ _ _ _ _ _ _ _ w.in-Err.said c.loop-turn.invariant.0 c.loop-turn.invariant.1 (rw (sym w.in-Err.ensures.other) at c.in_ok-said.ensures) w.in_ok-answer-in-Err.ensures.answers))
      ))))
]

pub returns-clause-answers : goal.returns-clause-answers
returns-clause-answers g c = waited_some _ _ _ _ _ _ _ c.loop-turn.self.has_connected c.loop-turn.events.items c.loop-turn.turn c.loop-turn.invariant.3 _ Input

pub returns-clause-fault : goal.returns-clause-fault
returns-clause-fault g c = inr (endless_wait _ _ _ _ _ _ _ c.loop-turn.self.has_connected c.loop-turn.events.items c.loop-turn.turn c.loop-turn.invariant.3 c.loop-turn-test.false)
