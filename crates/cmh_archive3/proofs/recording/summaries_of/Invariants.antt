use Rattle.std.proofs.Common.{map, take}
use Rattle.std.specs.List.{AllZip}
use Rattle.cmh_archive3.specs.Recording.{AreSummaries}
use Rattle.cmh_archive3.proofs.recording.summaries_of.Given as goal

abbrev pub invariant-loop-segments : goal.invariant-loop-segments
invariant-loop-segments l =
    AllZip AreSummaries (map (λ segments. map (λ file. file.items) segments.items) (take l.segments-index l.files)) (map (λ segments. segments.items) l.journals.items)
