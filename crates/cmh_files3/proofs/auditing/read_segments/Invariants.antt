use Rattle.std.proofs.Common.{map, take}
use Rattle.cmh_files3.proofs.FileLemmas.{ReadSoFar}
use Rattle.cmh_files3.proofs.auditing.read_segments.Given as goal

abbrev pub invariant-loop-i : goal.invariant-loop-i
invariant-loop-i l = ReadSoFar (map (λ file. file.items) (take l.i l.files)) l.segments.items l.cuts.items
