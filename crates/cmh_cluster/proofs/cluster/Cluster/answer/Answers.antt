use Rattle.std.proofs.Common.{refl}
use Rattle.std.proofs.KnownBytes.{Appends-kept}
use Rattle.cmh_talk.specs.SiteReplies.{reply_text}
use Rattle.cmh_cluster.proofs.cluster.Cluster.answer.Goals as goal

pub returns-clause-answers : goal.returns-clause-answers
returns-clause-answers g c = record {
  text = reply_text c.in_ok-reply.reply;
  answered = record {
    said = c.in_ok-said.said;
    reply = c.in_ok-reply.reply;
    says = c.in_ok-said.ensures;
    answers = c.in_ok-reply.ensures.replies;
    text_is = refl;
  };
  wrote = Appends-kept _ _ _ _ c.in_ok-write_text.ensures.bytes c.in_ok-flush.ensures.bytes;
}
