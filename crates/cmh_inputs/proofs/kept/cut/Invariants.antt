use Rattle.std.proofs.Common.{◌≡◌, length}
use Rattle.cmh_inputs.proofs.Cutting.{AreCutSoFar, AreLeft, items}
use Rattle.cmh_inputs.proofs.kept.cut.Given as goal

abbrev pub invariant-loop-i : goal.invariant-loop-i
invariant-loop-i l = record {
  each : length l.kept.items ≡ length l.fn.files.items;
  done : AreCutSoFar l.segments l.taken (items l.fn.files.items) l.i (items l.kept.items);
  left : AreLeft (items l.fn.files.items) l.i (items l.kept.items);
}
