use Rattle.std.proofs.Common.{rules}
use Rattle.std.proofs.Output.{has_written_append, has_written_of_eq}
use Rattle.cmh_frames.proofs.ListLemmas.{texts_written}
use Rattle.cmh_talk3.specs.Links.{states_text}
use Rattle.cmh_talk3.proofs.reply.LinkLinesDisplay.fmt.Goals as goal

pub loop-states-preserved : goal.loop-states-preserved
loop-states-preserved g c = λ plain.
    has_written_of_eq _ _ _ _ _ (texts_written states_text c.args.self.now.links.now c.loop-states.states-index c.states-item.result c.loop-states-test.true c.states-item.is)
    (has_written_append _ _ _ _ _ _ (c.loop-states.invariant plain) (search rules))
