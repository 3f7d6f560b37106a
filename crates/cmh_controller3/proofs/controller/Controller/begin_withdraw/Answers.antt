use Rattle.std.proofs.Common.{◌∙◌, ◌==◌, ◌&&◌, ◌||◌, ℕ, List, not, refl, sym, ap, subst}
use Rattle.cmh_model3.specs.declared.event.Event.TheVariants.{Withdraw}
use Rattle.cmh_model3.specs.Lists.{in_list}
use Rattle.cmh_topology3.specs.Topology.{site_of}
use Rattle.cmh_controller3.specs.Controller.{Controller}
use Rattle.cmh_controller3.specs.Steps.{CanTake, process_in}
use Rattle.cmh_controller3.specs.contracts.controller.Controller.{the_view}
use Rattle.cmh_controller3.proofs.Halves.{begun_kept, begun_withdraw, prepares_from}
use Rattle.cmh_controller3.proofs.Moving.{none_stops}
use Rattle.cmh_controller3.proofs.controller.Controller.begin_withdraw.Goals as goal

pub withdraws-requires : goal.withdraws-requires
withdraws-requires c = record {
  known = λ k named.
      let accepted = subst (λ (v : Controller). CanTake v (Withdraw c.args.asker c.args.targets.now)) (sym c.self.view_is) c.requires in
      (c.self.invariant.facts.waits_home c.args.asker k (accepted.3 k named)).1;
}

pub invariant_of-self : goal.invariant_of-self
invariant_of-self c =
    let accepted = subst (λ (v : Controller). CanTake v (Withdraw c.args.asker c.args.targets.now)) (sym c.self.view_is) c.requires in
    let more = λ (k : ℕ). c.in_ok-row-2.ensures k ∙ ap (λ z. (not (site_of c.self.inside.topology k == c.self.inside.site) && in_list c.args.targets.now k) || z) (c.in_ok-row.ensures k) in
    begun_kept (the_view c.self.inside) c.self.invariant c.args.asker c.args.targets.now c.put_row-leaving.new.self c.in_ok-row-2.row accepted.0 more c.put_row-leaving.ensures.pairs c.put_row-leaving.ensures.room

pub returns-clause-ok : goal.returns-clause-ok
returns-clause-ok c =
    let accepted = subst (λ (v : Controller). CanTake v (Withdraw c.args.asker c.args.targets.now)) (sym c.self.view_is) c.requires in
    let more = λ (k : ℕ). c.in_ok-row-2.ensures k ∙ ap (λ z. (not (site_of c.self.inside.topology k == c.self.inside.site) && in_list c.args.targets.now k) || z) (c.in_ok-row.ensures k) in
    prepares_from _ _ _ _ _ c.self.view_is (record {
      accepted = accepted;
      sends = (c.said.ensures.sent ∙ c.in_ok-sent.ensures, ap process_in c.said.ensures.declared);
      stop = none_stops _ _ c.said.ensures.declared;
      topology = refl;
      site = refl;
      state = begun_withdraw (the_view c.self.inside) c.self.invariant c.args.asker c.args.targets.now c.put_row-leaving.new.self c.in_ok-row-2.row accepted.0 more c.put_row-leaving.ensures.pairs c.put_row-leaving.ensures.room;
      facts = c.self.invariant.facts;
      before = λ k. ap (λ (xs : List ℕ). in_list xs k) c.new.ensures.leaving ∙ c.put_row-leaving.ensures.before k;
    })
