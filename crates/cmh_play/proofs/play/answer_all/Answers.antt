use Rattle.std.proofs.Common.{inl, inr, refl, ◌∙◌}
use Rattle.std.proofs.KnownBytes.{Appends-kept}
use Rattle.cmh_console.proofs.Dialogues.{endless_talk, has_left, talked_fault, talked_some}
use Rattle.cmh_console.proofs.LineLemmas.{unread}
use Rattle.cmh_play.proofs.KeptPlays.{played_to_end, unkept_fault, unread_fault}
use Rattle.cmh_play.proofs.LinesLed.{led_begun, led_more}
use Rattle.cmh_console.specs.declared.dialogue.DialogueFault.TheVariants.{Input, Output}
use Rattle.cmh_play.proofs.play.answer_all.Goals as goal

pub loop-turn-init : goal.loop-turn-init
loop-turn-init g c = record { led = led_begun g.K.Keeper.wants c.args.state.now _ _ c.requires; unfailed = refl }

pub loop-turn-preserved : goal.loop-turn-preserved
loop-turn-preserved g c = record {
  led = rw c.has_line.ensures.left
      (led_more g.K.Keeper.keeps g.K.Keeper.wants c.loop-turn.state c.answer_line.new.self _ _ _ _ _ _ c.loop-turn.turn c.in_ok-next.next c.in_ok-reply.reply _ _ c.loop-turn.invariant.led
      c.in_ok-next.ensures.line c.in_ok-next.ensures.rest (c.is_end.ensures.no c.if-is_end.false) c.in_ok-reply.ensures.answers
      (Appends-kept _ _ _ _ c.in_ok-write_reply.ensures.bytes c.in_ok-flush_awaited.ensures.bytes));
  unfailed = c.in_ok-flush_awaited.ensures.ok ∙ c.in_ok-write_reply.ensures.ok ∙ c.loop-turn.invariant.unfailed;
}

pub returns-then-is_end-clause-answers : goal.returns-then-is_end-clause-answers
returns-then-is_end-clause-answers g c =
    talked_some _ _ _ _ _ _ _ c.loop-turn.invariant.led.state c.loop-turn.turn c.loop-turn.invariant.led.played _ Input

pub returns-then-is_end-clause-all : goal.returns-then-is_end-clause-all
returns-then-is_end-clause-all g c = record {
  state = c.loop-turn.invariant.led.state;
  shows = c.loop-turn.invariant.led.shows;
  holds = played_to_end _ _ _ _ c.loop-turn.invariant.led.state c.loop-turn.turn c.loop-turn.invariant.led.played c.in_ok-next.next
      c.in_ok-next.ensures.line (c.is_end.ensures.yes c.if-is_end.true);
}

pub returns-in_err-next-clause-answers : goal.returns-in_err-next-clause-answers
returns-in_err-next-clause-answers g c =
    talked_some _ _ _ _ _ _ _ c.loop-turn.invariant.led.state c.loop-turn.turn c.loop-turn.invariant.led.played _ Input

pub returns-in_err-next-clause-fault : goal.returns-in_err-next-clause-fault
returns-in_err-next-clause-fault g c =
    let so_far = c.loop-turn.invariant.led in
    unread_fault g.K.Keeper.fails _ _ _ c.from_residual.result c.in_err-next.field-0.0 c.from_residual.ensures.1
    (unread _ _ c.loop-turn.turn (has_left _ _ _ _ _ _ _ so_far.state c.loop-turn.turn so_far.played) _ _ c.in_err-next.field-0.0 c.in_err-next.ensures.fault)

pub returns-in_err-reply-clause-answers : goal.returns-in_err-reply-clause-answers
returns-in_err-reply-clause-answers g c =
    talked_some _ _ _ _ _ _ _ c.loop-turn.invariant.led.state c.loop-turn.turn c.loop-turn.invariant.led.played _ Input

pub returns-in_err-reply-clause-fault : goal.returns-in_err-reply-clause-fault
returns-in_err-reply-clause-fault g c =
    unkept_fault g.K.Keeper.fails _ _ _ c.from_residual-in_err-reply.result c.in_err-reply.field-0.0 c.from_residual-in_err-reply.ensures.1 c.in_err-reply.ensures.fault

pub returns-in_err-write_reply-clause-answers : goal.returns-in_err-write_reply-clause-answers
returns-in_err-write_reply-clause-answers g c =
    talked_fault _ _ _ _ _ _ _ c.loop-turn.invariant.led.state c.loop-turn.turn c.loop-turn.invariant.led.played _ _ Input Output c.in_err-write_reply.ensures.err

pub returns-in_err-flush_awaited-clause-answers : goal.returns-in_err-flush_awaited-clause-answers
returns-in_err-flush_awaited-clause-answers g c =
    talked_fault _ _ _ _ _ _ _ c.loop-turn.invariant.led.state c.loop-turn.turn c.loop-turn.invariant.led.played _ _ Input Output c.in_err-flush_awaited.ensures.err

pub returns-clause-answers : goal.returns-clause-answers
returns-clause-answers g c =
    talked_some _ _ _ _ _ _ _ c.loop-turn.invariant.led.state c.loop-turn.turn c.loop-turn.invariant.led.played _ Input

pub returns-clause-fault : goal.returns-clause-fault
returns-clause-fault g c =
    inr (endless_talk _ _ _ _ _ _ _ c.loop-turn.invariant.led.state c.loop-turn.turn c.loop-turn.invariant.led.played c.loop-turn-test.false)
