use Rattle.std.proofs.Common.{rules}
use Rattle.std.proofs.Output.{has_written_append, has_written_of_eq}
use Rattle.cmh_archive3.specs.Lines.{line_text}
use Rattle.cmh_frames.proofs.ListLemmas.{texts_written}
use Rattle.cmh_archive3.proofs.lines.LinesTextDisplay.fmt.Goals as goal

pub loop-line-preserved : goal.loop-line-preserved
loop-line-preserved g c = λ plain.
    has_written_of_eq _ _ _ _ _
    (texts_written line_text c.args.self.now.lines.now c.loop-line.line-index c.line-item.result c.loop-line-test.true c.line-item.is)
    (has_written_append _ _ _ _ _ _ (c.loop-line.invariant plain) (search rules))
