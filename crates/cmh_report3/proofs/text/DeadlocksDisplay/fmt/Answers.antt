use Rattle.std.proofs.Common.{rules}
use Rattle.std.proofs.Output.{has_written_append, has_written_of_eq}
use Rattle.cmh_report3.specs.Texts.{deadlock_line}
use Rattle.cmh_frames.proofs.ListLemmas.{texts_written}
use Rattle.cmh_report3.proofs.text.DeadlocksDisplay.fmt.Goals as goal

pub loop-deadlock-preserved : goal.loop-deadlock-preserved
loop-deadlock-preserved g c = λ plain.
    let item = c.deadlock-item.result in
    let so_far = c.loop-deadlock.invariant plain in
    let line = c.write.ensures.writes so_far.plain (search rules) in
    has_written_of_eq _ _ _ _ _ (texts_written deadlock_line c.args.self.now.deadlocks.now c.loop-deadlock.deadlock-index item c.loop-deadlock-test.true c.deadlock-item.is)
    (has_written_append _ _ _ _ _ _ so_far line)
