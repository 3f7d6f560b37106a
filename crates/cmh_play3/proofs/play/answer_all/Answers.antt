use Rattle.std.proofs.Common.{[], inr, refl, sym, subst, ◌∙◌}
use Rattle.std.proofs.KnownBytes.{Appends-kept}
use Rattle.cmh_console.proofs.LineLemmas.{unread_err}
use Rattle.cmh_play3.specs.PlayStates.{PlayState}
use Rattle.cmh_play3.proofs.Lines.{HasTalked, begun, endless_talk, has_left, talked_all, talked_failed, talked_more, talked_some}
use Rattle.cmh_play3.proofs.Turns.{new_held, new_shown, turn_of}
use Rattle.cmh_play3.proofs.play.answer_all.Goals as goal

pub loop-turn-init : goal.loop-turn-init
loop-turn-init g c = record {
  talked = record {
    events = [];
    shows = new_shown c.args.state.now c.requires;
    holds = subst (λ (s : PlayState). HasTalked c.args.input.now.left c.args.input.now.left c.args.out.now.written c.args.out.now.written s 0) (sym (new_held c.args.state.now c.requires)) (begun _ _);
  };
  unfailed = refl;
}

pub answer-requires-clause-shown : goal.answer-requires-clause-shown
answer-requires-clause-shown g c = let talked = c.loop-turn.invariant.talked in (talked.events, talked.shows)

pub loop-turn-preserved : goal.loop-turn-preserved
loop-turn-preserved g c =
    let talked = c.loop-turn.invariant.talked in
    let leads = c.in_ok-reply.ensures talked.events talked.shows in
    record {
      talked = record {
        events = leads.events;
        shows = leads.held;
        holds = rw c.has_line.ensures.left
            (talked_more _ _ _ _ _ c.loop-turn.turn talked.holds _ _ c.in_ok-next.next _ _ c.in_ok-next.ensures.line c.in_ok-next.ensures.rest
            (c.is_end.ensures.no c.if-is_end.false)
            (turn_of c.loop-turn.state c.answer.new.self talked.events _ c.in_ok-said.said c.in_ok-reply.reply c.in_ok-said.ensures.said leads)
            (Appends-kept _ _ _ _ c.in_ok-write_reply.ensures.bytes c.in_ok-flush_awaited.ensures.bytes));
      };
      unfailed = c.in_ok-flush_awaited.ensures.ok ∙ c.in_ok-write_reply.ensures.ok ∙ c.loop-turn.invariant.unfailed;
    }

pub returns-then-is_end-clause-answers : goal.returns-then-is_end-clause-answers
returns-then-is_end-clause-answers g c = talked_some _ _ _ _ _ c.loop-turn.turn c.loop-turn.invariant.talked.holds _

pub returns-then-is_end-clause-all : goal.returns-then-is_end-clause-all
returns-then-is_end-clause-all g c =
    let talked = c.loop-turn.invariant.talked in
    record {
      events = talked.events;
      shows = talked.shows;
      holds = talked_all _ _ _ _ _ c.loop-turn.turn talked.holds c.in_ok-next.next c.in_ok-next.ensures.line (c.is_end.ensures.yes c.if-is_end.true);
    }

pub returns-in_err-next-clause-answers : goal.returns-in_err-next-clause-answers
returns-in_err-next-clause-answers g c = talked_some _ _ _ _ _ c.loop-turn.turn c.loop-turn.invariant.talked.holds _

pub returns-in_err-next-clause-fault : goal.returns-in_err-next-clause-fault
returns-in_err-next-clause-fault g c =
    unread_err _ _ c.loop-turn.turn (has_left _ _ _ _ _ c.loop-turn.turn c.loop-turn.invariant.talked.holds) _ _ _ c.in_err-next.field-0.0 c.from_residual.ensures.1 c.in_err-next.ensures.fault

pub returns-in_err-said-clause-answers : goal.returns-in_err-said-clause-answers
returns-in_err-said-clause-answers g c = talked_some _ _ _ _ _ c.loop-turn.turn c.loop-turn.invariant.talked.holds _

pub returns-in_err-reply-clause-answers : goal.returns-in_err-reply-clause-answers
returns-in_err-reply-clause-answers g c = talked_some _ _ _ _ _ c.loop-turn.turn c.loop-turn.invariant.talked.holds _

pub returns-in_err-write_reply-clause-answers : goal.returns-in_err-write_reply-clause-answers
returns-in_err-write_reply-clause-answers g c = talked_failed _ _ _ _ _ c.loop-turn.turn c.loop-turn.invariant.talked.holds _ _ c.in_err-write_reply.ensures.err

pub returns-in_err-flush_awaited-clause-answers : goal.returns-in_err-flush_awaited-clause-answers
returns-in_err-flush_awaited-clause-answers g c = talked_failed _ _ _ _ _ c.loop-turn.turn c.loop-turn.invariant.talked.holds _ _ c.in_err-flush_awaited.ensures.err

pub returns-clause-answers : goal.returns-clause-answers
returns-clause-answers g c = talked_some _ _ _ _ _ c.loop-turn.turn c.loop-turn.invariant.talked.holds _

pub returns-clause-fault : goal.returns-clause-fault
returns-clause-fault g c = inr (endless_talk _ _ _ _ _ c.loop-turn.turn c.loop-turn.invariant.talked.holds c.loop-turn-test.false)
