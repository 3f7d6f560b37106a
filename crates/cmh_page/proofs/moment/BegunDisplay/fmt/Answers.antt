use Rattle.std.proofs.Common.{rules, codes}
use Rattle.std.specs.Fmt.{decimal}
use Rattle.std.proofs.Output.{has_written_append, has_written_of_eq}
use Rattle.cmh_frames.proofs.ListLemmas.{joined_five, texts_written}
use Rattle.cmh_page.specs.Moments.{begins_text}
use Rattle.cmh_page.proofs.moment.BegunDisplay.fmt.Goals as goal

pub loop-holder-preserved : goal.loop-holder-preserved
loop-holder-preserved g c = λ plain.
    let asker = c.args.self.now.asker in
    let item = c.holder-item.result in
    let so_far = c.loop-holder.invariant plain in
    let line = has_written_of_eq _ _ _ _ _ (joined_five (codes "begins ") (decimal asker) (codes " ") (decimal item) (codes "\n"))
    (c.write.ensures.writes so_far.plain (search rules)) in
    has_written_of_eq _ _ _ _ _ (texts_written (begins_text asker) c.args.self.now.holders.now c.loop-holder.holder-index item c.loop-holder-test.true c.holder-item.is)
    (has_written_append _ _ _ _ _ _ so_far line)
