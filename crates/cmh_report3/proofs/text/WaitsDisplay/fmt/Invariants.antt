use Rattle.std.proofs.Common.{codes, take}
use Rattle.std.specs.Fmt.{HasWritten, IsPlainFormatter}
use Rattle.std.specs.List.{flat_map}
use Rattle.cmh_report3.specs.Texts.{pair_text}
use Rattle.cmh_report3.proofs.text.WaitsDisplay.fmt.Given as goal

abbrev pub invariant-loop-asker : goal.invariant-loop-asker
invariant-loop-asker g l =
    IsPlainFormatter l.initial.f → HasWritten g.W.Write.write_str_gives l.initial.f (flat_map (pair_text (codes "wait ")) (take l.asker-index l.initial.self.waits.now)) l.f
