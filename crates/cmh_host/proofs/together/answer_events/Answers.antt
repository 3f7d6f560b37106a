use Rattle.std.proofs.Common.{List, ◌++◌, ap, sym, ◌∙◌, append_assoc, subst}
use Rattle.cmh_frames.specs.declared.event.Event.{Event}
use Rattle.cmh_talk.proofs.Taking.{all_answered, answered_on, first_alone, of_some, stepped_alone}
use Rattle.cmh_talk.specs.Together.{FirstRefused, WereAnswered}
use Rattle.cmh_host.proofs.together.answer_events.Goals as goal
use Rattle.cmh_host.proofs.together.answer_events.Goals.{in-Some, in-None}

pub returns-in-Ok-clause-answered : goal.returns-in-Ok-clause-answered
returns-in-Ok-clause-answered g c =
    let v = c.loop-rest.invariant in
    subst (λ (es : List Event). WereAnswered es c.args.out.now.written c.write_all.new.out.written) v.whole
    (answered_on v.done c.loop-rest.rest.now _ _ _ v.told
    (all_answered c.loop-rest.rest.now c.in-Ok.answers.items _ _ c.in-Ok.ensures.taken (rw c.deref.ensures.value at c.in_ok-write_all-in-Ok.ensures.wrote)))

pub loop-rest-preserved : goal.loop-rest-preserved
loop-rest-preserved g c =
    let v = c.loop-rest.invariant in
    let front = c.split_at.result.0.now in
    let behind = c.split_at.result.1.now in
    record {
      done = v.done ++ front;
      whole = append_assoc v.done front behind ∙ ap (λ x. v.done ++ x) (sym c.split_at.ensures.by_index.0) ∙ v.whole;
      told = answered_on v.done front _ _ _ v.told (elim c.match-refused.branch [
        | in-Some w ↦ first_alone c.loop-rest.rest.now front behind w.in-Some.refusal c.match-refused.reply _ _ c.split_at.ensures.front_len
            (sym c.split_at.ensures.by_index.0) (of_some c.in-Err.refused (FirstRefused c.loop-rest.rest.now) w.in-Some.refusal w.in-Some.is c.in-Err.ensures.first) w.reply-is c.in_ok-write_text-in-Err.ensures.bytes
        | in-None w ↦ stepped_alone front w.index-first-0.result c.match-refused.reply w.step-reply.result _ _ c.split_at.ensures.front_len
            w.index-first-0.is w.step-reply.ensures w.reply-is c.in_ok-write_text-in-Err.ensures.bytes
      ]);
    }
