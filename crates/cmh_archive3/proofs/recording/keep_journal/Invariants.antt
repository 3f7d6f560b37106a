use Rattle.std.proofs.Common.{take}
use Rattle.cmh_archive3.specs.Recording.{KeepsJournal}
use Rattle.cmh_archive3.proofs.recording.keep_journal.Given as goal

abbrev pub invariant-loop-segment : goal.invariant-loop-segment
invariant-loop-segment g l = KeepsJournal g.K.RecordKeeper.keeps l.newest l.folder (take l.segment-index l.segments) l.initial.keeper l.keeper
