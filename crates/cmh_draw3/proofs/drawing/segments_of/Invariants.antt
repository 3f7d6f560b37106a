use Rattle.std.proofs.Common.{map, take}
use Rattle.cmh_draw3.specs.Draws.{AreSegmentsOf}
use Rattle.cmh_draw3.proofs.drawing.segments_of.Given as goal

abbrev pub invariant-loop-bytes : goal.invariant-loop-bytes
invariant-loop-bytes l = AreSegmentsOf (map (λ file. file.items) (take l.bytes-index l.files)) l.segments.items
