use Rattle.std.proofs.Common.{take}
use Rattle.std.specs.Fmt.{HasWritten, IsPlainFormatter}
use Rattle.std.specs.List.{flat_map}
use Rattle.cmh_page.specs.Moments.{begins_text}
use Rattle.cmh_page.proofs.moment.BegunDisplay.fmt.Given as goal

abbrev pub invariant-loop-holder : goal.invariant-loop-holder
invariant-loop-holder g l =
    IsPlainFormatter l.initial.f → HasWritten g.W.Write.write_str_gives l.initial.f
    (flat_map (begins_text l.initial.self.asker) (take l.holder-index l.initial.self.holders.now)) l.f
