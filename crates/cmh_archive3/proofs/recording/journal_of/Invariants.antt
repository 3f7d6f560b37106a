use Rattle.std.proofs.Common.{map, take}
use Rattle.cmh_archive3.specs.Recording.{AreSummaries}
use Rattle.cmh_archive3.proofs.recording.journal_of.Given as goal

abbrev pub invariant-loop-bytes : goal.invariant-loop-bytes
invariant-loop-bytes l = AreSummaries (map (λ file. file.items) (take l.bytes-index l.files)) l.segments.items
