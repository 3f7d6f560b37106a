use Rattle.std.proofs.Common.{take}
use Rattle.std.specs.Fmt.{HasWritten, IsPlainFormatter}
use Rattle.std.specs.List.{flat_map}
use Rattle.cmh_files3.specs.Audits.{stop_text}
use Rattle.cmh_files3.proofs.auditing.StopLinesDisplay.fmt.Given as goal

abbrev pub invariant-loop-stop : goal.invariant-loop-stop
invariant-loop-stop g l =
    IsPlainFormatter l.initial.f → HasWritten g.W.Write.write_str_gives l.initial.f (flat_map stop_text (take l.stop-index l.initial.self.stops.now)) l.f
