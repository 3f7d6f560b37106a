use Rattle.std.proofs.Common.{take}
use Rattle.std.specs.Fmt.{HasWritten, IsPlainFormatter}
use Rattle.cmh_archive3.specs.Lines.{lines_text}
use Rattle.cmh_archive3.proofs.lines.LinesTextDisplay.fmt.Given as goal

abbrev pub invariant-loop-line : goal.invariant-loop-line
invariant-loop-line g l =
    IsPlainFormatter l.initial.f → HasWritten g.W.Write.write_str_gives l.initial.f (lines_text (take l.line-index l.initial.self.lines.now)) l.f
