use Rattle.std.proofs.Common.{take}
use Rattle.std.specs.Fmt.{HasWritten, IsPlainFormatter}
use Rattle.std.specs.List.{flat_map}
use Rattle.cmh_report3.specs.Texts.{deadlock_line}
use Rattle.cmh_report3.proofs.text.DeadlocksDisplay.fmt.Given as goal

abbrev pub invariant-loop-deadlock : goal.invariant-loop-deadlock
invariant-loop-deadlock g l =
    IsPlainFormatter l.initial.f → HasWritten g.W.Write.write_str_gives l.initial.f (flat_map deadlock_line (take l.deadlock-index l.initial.self.deadlocks.now)) l.f
