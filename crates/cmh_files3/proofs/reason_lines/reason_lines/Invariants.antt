use Rattle.std.proofs.Common.{take}
use Rattle.std.specs.Prelude.{string_bytes}
use Rattle.cmh_files3.specs.ReasonLines.{AreReasonLines}
use Rattle.cmh_files3.proofs.reason_lines.reason_lines.Given as goal

abbrev pub invariant-loop-stop : goal.invariant-loop-stop
invariant-loop-stop l = AreReasonLines l.topology l.segments l.stops (take l.stop-index l.stops) (string_bytes l.text)
