use Rattle.std.proofs.Common.{rules}
use Rattle.std.proofs.Output.{has_written_append, has_written_of_eq}
use Rattle.cmh_frames.proofs.ListLemmas.{texts_written}
use Rattle.cmh_talk.specs.SiteReplies.{ends_text}
use Rattle.cmh_talk.proofs.site_reply.LinkLinesDisplay.fmt.Goals as goal

pub loop-ends-preserved : goal.loop-ends-preserved
loop-ends-preserved g c = λ plain.
    has_written_of_eq _ _ _ _ _ (texts_written ends_text c.args.self.now.links.now c.loop-ends.ends-index c.ends-item.result c.loop-ends-test.true c.ends-item.is)
    (has_written_append _ _ _ _ _ _ (c.loop-ends.invariant plain) (search rules))
