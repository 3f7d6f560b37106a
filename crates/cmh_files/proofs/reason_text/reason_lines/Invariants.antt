use Rattle.std.proofs.Common.{take}
use Rattle.std.specs.Prelude.{string_bytes}
use Rattle.cmh_files.specs.ReasonLines.{AreReasonLines}
use Rattle.cmh_files.proofs.reason_text.reason_lines.Given as goal

abbrev pub invariant-loop-site : goal.invariant-loop-site
invariant-loop-site l = AreReasonLines l.topology l.journals l.stops (take l.site-index l.stops) (string_bytes l.text)
