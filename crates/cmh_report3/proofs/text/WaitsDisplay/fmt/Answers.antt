use Rattle.std.proofs.Common.{rules, codes}
use Rattle.std.specs.Fmt.{decimal}
use Rattle.std.proofs.Output.{has_written_append, has_written_of_eq}
use Rattle.cmh_report3.specs.Texts.{pair_text}
use Rattle.cmh_frames.proofs.ListLemmas.{joined_five, texts_written}
use Rattle.cmh_report3.proofs.text.WaitsDisplay.fmt.Goals as goal

pub loop-asker-preserved : goal.loop-asker-preserved
loop-asker-preserved g c = λ plain.
    let item = c.loop-asker-item.result in
    let so_far = c.loop-asker.invariant plain in
    let line = has_written_of_eq _ _ _ _ _ (joined_five (codes "wait ") (decimal item.0) (codes " ") (decimal item.1) (codes "\n"))
    (c.write.ensures.writes so_far.plain (search rules)) in
    has_written_of_eq _ _ _ _ _ (texts_written (pair_text (codes "wait ")) c.args.self.now.waits.now c.loop-asker.asker-index item c.loop-asker-test.true c.loop-asker-item.is)
    (has_written_append _ _ _ _ _ _ so_far line)
