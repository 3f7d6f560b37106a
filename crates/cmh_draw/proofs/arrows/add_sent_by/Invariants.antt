use Rattle.std.proofs.Common.{◌≡◌, ℕ, ◌++◌, drop}
use Rattle.std.specs.Prelude.{None}
use Rattle.cmh_draw.specs.Each.{each_from}
use Rattle.cmh_draw.specs.Inner.Ways as inner
use Rattle.cmh_frames.specs.declared.frame.Frame.{Frame}
use Rattle.cmh_draw.specs.declared.mark.DrawnFrame.TheVariants.{Older}
use Rattle.cmh_draw.proofs.arrows.add_sent_by.Given as goal

abbrev pub invariant-loop-place : goal.invariant-loop-place
invariant-loop-place l =
    l.all.items ++ each_from (λ place (x : ℕ × Frame). inner.if_on (inner.is_on l.topology l.way x.0) (record { from = l.at; place = place; to = x.0; frame = Older x.1; got = None })) l.place (drop l.place l.sent)
    ≡ l.fn.all.items ++ inner.sent_by l.topology l.way l.at l.sent
