use Rattle.std.proofs.Common.{◌≡◌, Bool, true, not, ◌&&◌, sym, ap, ◌∙◌}
use Rattle.cmh_model3.specs.Stops.{stop, withdrawn_past}
use Rattle.cmh_model3.specs.Waits.{Waits}
use Rattle.cmh_report3.specs.Endings.{StandsSince, ended_past}
use Rattle.cmh_report3.specs.Inner.Pairs.{has_pair}
use Rattle.cmh_report3.proofs.Cycles.{became_to}
use Rattle.cmh_report3.proofs.cycle.deadlock_at.Goals as goal

pub returns-clause-cycle : goal.returns-clause-cycle
returns-clause-cycle c =
    let n = c.args.number in
    let es = c.args.events.now in
    let held = c.in_ok-stop.stop in
    let are = c.in_ok-stop.ensures in
    became_to (λ j k. has_pair held.waits j k ≡ true) (Waits (stop n es))
    (λ j k. (has_pair held.waits j k && not (has_pair held.ended j k)) ≡ true) (StandsSince n es)
    (λ j k. has_pair held.left j k ≡ true) (λ j k. withdrawn_past n j k (λ s. 0) es ≡ true)
    (λ j k. (λ h. sym (are.waits j k) ∙ h, λ h. are.waits j k ∙ h))
    (λ j k. (
      λ h. sym (ap (λ (b : Bool). b && not (ended_past n j k (λ s. 0) es)) (are.waits j k)) ∙ sym (ap (λ (b : Bool). has_pair held.waits j k && not b) (are.ended j k)) ∙ h,
      λ h. ap (λ (b : Bool). has_pair held.waits j k && not b) (are.ended j k) ∙ ap (λ (b : Bool). b && not (ended_past n j k (λ s. 0) es)) (are.waits j k) ∙ h,
    ))
    (λ j k. (λ h. sym (are.left j k) ∙ h, λ h. are.left j k ∙ h))
    c.args.process c.in_ok-cycle_now.field-0 c.in_ok-cycle_now.ensures
