use Rattle.std.proofs.Common.{map, take}
use Rattle.cmh_files.proofs.FileLemmas.{ReadSoFar}
use Rattle.cmh_files.proofs.auditing.read_journals.Given as goal

abbrev pub invariant-loop-i : goal.invariant-loop-i
invariant-loop-i l = ReadSoFar (map (λ file. file.items) (take l.i l.files)) l.journals.items l.cuts.items
