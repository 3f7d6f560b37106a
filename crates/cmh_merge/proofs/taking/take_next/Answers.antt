use Rattle.std.proofs.Common.{◌≡◌, ℕ, List, ◌∷◌, Bool, subst, sym, ap, ◌∙◌}
use Rattle.std.specs.Prelude.{MatchBool}
use Rattle.cmh_merge.specs.Inner.Takings.{CanTake, IsStuck, SendsFrames}
use Rattle.cmh_merge.proofs.Takings.{moves_both}
use Rattle.cmh_merge.proofs.taking.take_next.Goals as goal

pub returns : goal.returns
returns g c =
    let W = g.W.Walk in
    let can = subst (λ (r : Bool). MatchBool r (CanTake W.got c.args.site (W.left c.args.walk.now) c.args.queues.now c.receive_next.new.queues)
    (IsStuck W.got c.args.site (W.left c.args.walk.now) c.args.queues.now × (c.receive_next.new.queues ≡ c.args.queues.now))) c.if-not-receive_next.false c.receive_next.ensures in
    let took = c.in_ok-take.ensures in
    record {
      took = (
        can.0,
        can.2 ∙ ap (λ es. can.0 ∷ es) (sym (took.left can.0 can.1 can.2)),
        moves_both W.got c.args.site can.0 c.args.queues.now c.receive_next.new.queues c.send_all.new.queues can.3
            (subst (λ (sent : List (ℕ × g.row.F.Denot)). SendsFrames c.args.site sent c.receive_next.new.queues c.send_all.new.queues)
            (c.deref.ensures.value ∙ took.sent can.0 can.1 can.2) c.in_ok-send_all.ensures),
      );
    }
