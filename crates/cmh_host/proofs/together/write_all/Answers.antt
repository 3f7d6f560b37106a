use Rattle.cmh_talk.proofs.Taking.{wrote_more}
use Rattle.cmh_host.proofs.together.write_all.Goals as goal

pub loop-answer-preserved : goal.loop-answer-preserved
loop-answer-preserved g c =
    wrote_more c.args.answers.now c.loop-answer.answer-index c.answer-item.result c.reply_to.result _ _ _ c.loop-answer.invariant c.loop-answer-test.true
    c.answer-item.is c.reply_to.ensures c.in_ok-write_text.ensures.bytes
