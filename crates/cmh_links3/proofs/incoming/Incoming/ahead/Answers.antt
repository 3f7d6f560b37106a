use Rattle.std.proofs.Common.{List, Option, Some, subst, sym, ℕ}
use Rattle.std.proofs.lemmas.Option.{IfSome_then}
use Rattle.cmh_links3.specs.Ahead.{IsAheadOf, IsHeard}
use Rattle.cmh_links3.specs.Connections.{Incoming}
use Rattle.cmh_links3.proofs.incoming.Incoming.ahead.Goals as goal

pub returns-in_ok-epoch_of_item-in-Some : goal.returns-in_ok-epoch_of_item-in-Some
returns-in_ok-epoch_of_item-in-Some g c =
    let heard = c.in_ok-epoch_of_item-in-Some.ensures c.in-Some.field-0 in
    IfSome_then c.later_than-in-Some.result c.later_than-in-Some.ensures (λ later is. (
      subst (λ (own : ℕ). IsAheadOf own later) c.epoch-in-Some.ensures is.1,
      subst (λ (a : Incoming). IsHeard a.place a.unread later) c.self.view_is
          (subst (λ (place : Option ℕ). IsHeard place c.self.inside.unread later) (sym c.in-Some.is)
          (subst (λ (bytes : List ℕ). IsHeard (Some c.in-Some.field-0) bytes later) c.as_slice-in-Some.ensures
          (subst (IsHeard (Some c.in-Some.field-0) c.as_slice-in-Some.result.now) (sym is.0) heard))),
    ))
