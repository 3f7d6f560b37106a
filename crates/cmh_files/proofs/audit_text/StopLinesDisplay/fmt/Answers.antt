use Rattle.std.proofs.Common.{rules, codes}
use Rattle.std.specs.Fmt.{decimal}
use Rattle.std.proofs.Output.{has_written_append, has_written_of_eq}
use Rattle.cmh_files.specs.AuditTexts.{pair_text}
use Rattle.cmh_frames.proofs.ListLemmas.{joined_five, texts_written}
use Rattle.cmh_files.proofs.audit_text.StopLinesDisplay.fmt.Goals as goal

pub loop-site-preserved : goal.loop-site-preserved
loop-site-preserved g c = λ plain.
    let item = c.loop-site-item.result in
    let so_far = c.loop-site.invariant plain in
    let line = has_written_of_eq _ _ _ _ _ (joined_five (codes "stop ") (decimal item.0) (codes " at ") (decimal item.1) (codes "\n"))
    (c.write.ensures.writes so_far.plain (search rules)) in
    has_written_of_eq _ _ _ _ _ (texts_written (pair_text (codes "stop ") (codes " at ")) c.args.self.now.stops.now c.loop-site.site-index item c.loop-site-test.true c.loop-site-item.is)
    (has_written_append _ _ _ _ _ _ so_far line)
