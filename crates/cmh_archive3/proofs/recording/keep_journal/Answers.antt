use Rattle.cmh_archive3.proofs.Keeping.{keeps_more}
use Rattle.cmh_archive3.proofs.recording.keep_journal.Goals as goal

pub loop-segment-preserved : goal.loop-segment-preserved
loop-segment-preserved g c =
    keeps_more g.K.RecordKeeper.keeps c.args.newest.now c.args.folder.now c.args.segments.now c.loop-segment.segment-index c.segment-item.result
    c.args.keeper.now c.loop-segment.keeper c.keep_one.new.keeper c.loop-segment-test.true c.segment-item.is c.loop-segment.invariant c.in_ok-keep_one.ensures
