use Rattle.std.proofs.Common.{rules}
use Rattle.std.proofs.Output.{has_written_append, has_written_of_eq}
use Rattle.cmh_frames.proofs.ListLemmas.{texts_written}
use Rattle.cmh_cluster3.specs.Replies.{link_text}
use Rattle.cmh_cluster3.proofs.reply.KeptLinksDisplay.fmt.Goals as goal

pub loop-link-preserved : goal.loop-link-preserved
loop-link-preserved g c = λ plain.
    has_written_of_eq _ _ _ _ _ (texts_written link_text c.args.self.now.links.now c.loop-link.link-index c.link-item.result c.loop-link-test.true c.link-item.is)
    (has_written_append _ _ _ _ _ _ (c.loop-link.invariant plain) (search rules))
