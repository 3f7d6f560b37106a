use Rattle.std.proofs.Common.{rules, codes}
use Rattle.std.specs.Fmt.{decimal}
use Rattle.std.proofs.Output.{has_written_append, has_written_of_eq}
use Rattle.cmh_files3.specs.Audits.{stop_text}
use Rattle.cmh_frames.proofs.ListLemmas.{joined_five, texts_written}
use Rattle.cmh_files3.proofs.auditing.StopLinesDisplay.fmt.Goals as goal

pub loop-stop-preserved : goal.loop-stop-preserved
loop-stop-preserved g c = λ plain.
    let item = c.stop-item.result in
    let so_far = c.loop-stop.invariant plain in
    let line = has_written_of_eq _ _ _ _ _ (joined_five (codes "stop ") (decimal item.site) (codes " at ") (decimal item.entry) (codes "\n"))
    (c.write.ensures.writes so_far.plain (search rules)) in
    has_written_of_eq _ _ _ _ _ (texts_written stop_text c.args.self.now.stops.now c.loop-stop.stop-index item c.loop-stop-test.true c.stop-item.is)
    (has_written_append _ _ _ _ _ _ so_far line)
