use Rattle.std.proofs.Common.{map, take}
use Rattle.std.specs.Fmt.{HasWritten, IsPlainFormatter}
use Rattle.cmh_page.specs.Moments.{moments_text}
use Rattle.cmh_page.proofs.moment.MomentsDisplay.fmt.Given as goal

abbrev pub invariant-loop-step : goal.invariant-loop-step
invariant-loop-step g l =
    IsPlainFormatter l.initial.f
    → HasWritten g.W.Write.write_str_gives l.initial.f (moments_text l.initial.self.journals.now
    (map (λ row. row.items) l.initial.self.fates.now) (take l.step-index l.initial.self.steps.now)) l.f
