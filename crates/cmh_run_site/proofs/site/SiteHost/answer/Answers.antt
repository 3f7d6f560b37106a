use Rattle.std.proofs.KnownBytes.{Appends-kept}
use Rattle.cmh_run_site.proofs.site.SiteHost.answer.Goals as goal

pub returns-clause-answers : goal.returns-clause-answers
returns-clause-answers g c = record {
  reply = c.in_ok-reply.reply;
  answers = c.in_ok-reply.ensures.replies;
  wrote = Appends-kept _ _ _ _ c.in_ok-write_text.ensures.bytes c.in_ok-flush.ensures.bytes;
}
