use Rattle.std.proofs.Common.{take}
use Rattle.std.specs.Fmt.{HasWritten, IsPlainFormatter}
use Rattle.cmh_files.specs.RunAudits.{run_text}
use Rattle.cmh_files.proofs.run_lines.RunLinesDisplay.fmt.Given as goal

abbrev pub invariant-loop-step : goal.invariant-loop-step
invariant-loop-step g l =
    IsPlainFormatter l.initial.f
    → HasWritten g.W.Write.write_str_gives l.initial.f (run_text l.initial.self.journals.now (take l.step-index l.initial.self.steps.now)) l.f
