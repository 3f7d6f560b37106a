use Rattle.std.proofs.Common.{refl}
use Rattle.std.proofs.KnownBytes.{Appends-kept}
use Rattle.cmh_cluster3.specs.Replies.{reply_text}
use Rattle.cmh_cluster3.proofs.cluster.answer.Goals as goal

pub returns-clause-answers : goal.returns-clause-answers
returns-clause-answers g c = record {
  text = reply_text c.in_ok-reply.reply;
  answered = record {
    said = c.in_ok-said.said;
    reply = c.in_ok-reply.reply;
    between = c.answer.new.self.world.nodes.items;
    says = c.in_ok-said.ensures;
    does = c.in_ok-reply.ensures.does;
    settles = c.settle.ensures;
    text_is = refl;
  };
  wrote = Appends-kept _ _ _ _ c.in_ok-write_text.ensures.bytes c.in_ok-flush.ensures.bytes;
}
