use Rattle.std.proofs.Common.{◌∙◌, sym, ap, subst}
use Rattle.cmh_model3.specs.declared.frame.Frame.TheVariants.{Probe}
use Rattle.cmh_model3.specs.declared.event.Event.TheVariants.{Got}
use Rattle.cmh_controller3.specs.Controller.{Controller}
use Rattle.cmh_controller3.specs.Steps.{CanTake}
use Rattle.cmh_controller3.specs.contracts.controller.Controller.{the_view}
use Rattle.cmh_model3.specs.Rules.{probe_acts}
use Rattle.cmh_controller3.specs.Controller.{state_of}
use Rattle.cmh_controller3.proofs.Looking.{are_waits, of_site, origin_here}
use Rattle.cmh_controller3.proofs.Moving.{ignored_moves, probe_moves, steps_from}
use Rattle.cmh_controller3.proofs.controller.Controller.got_probe.Goals as goal

pub invariant_of-self : goal.invariant_of-self
invariant_of-self c =
    let accepted = subst (λ (v : Controller). CanTake v (Got c.args.from c.args.clock (Probe c.args.ask.now.origin c.args.ask.now.stamp c.args.sender c.args.at))) (sym c.self.view_is) c.requires in
    let ignored = ap (λ (v : Controller). probe_acts (state_of v) c.args.ask.now.origin c.args.ask.now.stamp c.args.sender c.args.at) c.self.view_is ∙ sym c.acts-acts.ensures ∙ c.if-not-acts.true in
    (ignored_moves (the_view c.self.inside) c.self.invariant c.args.from c.args.clock c.args.ask.now.origin c.args.ask.now.stamp c.args.sender c.args.at c.later-clock.result c.said.result accepted
    (c.said.ensures.sent ∙ c.new.ensures.items) c.said.ensures.declared ignored c.later-clock.ensures).kept

pub returns-then-not-acts-clause-ok : goal.returns-then-not-acts-clause-ok
returns-then-not-acts-clause-ok c =
    let accepted = subst (λ (v : Controller). CanTake v (Got c.args.from c.args.clock (Probe c.args.ask.now.origin c.args.ask.now.stamp c.args.sender c.args.at))) (sym c.self.view_is) c.requires in
    let ignored = ap (λ (v : Controller). probe_acts (state_of v) c.args.ask.now.origin c.args.ask.now.stamp c.args.sender c.args.at) c.self.view_is ∙ sym c.acts-acts.ensures ∙ c.if-not-acts.true in
    let moves = ignored_moves (the_view c.self.inside) c.self.invariant c.args.from c.args.clock c.args.ask.now.origin c.args.ask.now.stamp c.args.sender c.args.at c.later-clock.result c.said.result accepted
    (c.said.ensures.sent ∙ c.new.ensures.items) c.said.ensures.declared ignored c.later-clock.ensures in
    steps_from _ _ _ _ _ c.self.view_is moves.steps

pub look_from_probe-requires-clause-of_site : goal.look_from_probe-requires-clause-of_site
look_from_probe-requires-clause-of_site c = of_site (the_view c.self.inside) c.self.invariant

pub declare-new-requires : goal.declare-new-requires
declare-new-requires c = record {
  room = λ deadlocked.
      let sees = c.in_ok-sight.ensures (state_of (the_view c.self.inside)) (are_waits (the_view c.self.inside) c.self.invariant) in
      let seen = rw deadlocked at sees in
      c.self.invariant.declared_room c.args.ask.now.origin (origin_here (the_view c.self.inside) c.self.invariant c.args.ask.now.stamp c.args.ask.now.origin seen.0.1);
}

pub invariant_of-self-2 : goal.invariant_of-self-2
invariant_of-self-2 c =
    let accepted = subst (λ (v : Controller). CanTake v (Got c.args.from c.args.clock (Probe c.args.ask.now.origin c.args.ask.now.stamp c.args.sender c.args.at))) (sym c.self.view_is) c.requires in
    let acts = ap (λ (v : Controller). probe_acts (state_of v) c.args.ask.now.origin c.args.ask.now.stamp c.args.sender c.args.at) c.self.view_is ∙ sym c.acts-acts.ensures ∙ c.if-not-acts.false in
    let sees = c.in_ok-sight.ensures (state_of (the_view c.self.inside)) (are_waits (the_view c.self.inside) c.self.invariant) in
    (probe_moves (the_view c.self.inside) c.self.invariant c.args.from c.args.clock c.args.ask.now.origin c.args.ask.now.stamp c.args.sender c.args.at c.later-clock.result c.in_ok-sight.sight.sent.items c.in_ok-sight.sight.deadlocked
    c.declare-new.result c.put.new.self c.declare-new.new.declared.items (record { sent = c.new-2.result; declared = c.declaration.result }) accepted c.new-2.ensures c.declaration.ensures acts c.declare-new.ensures.new sees
    c.in_ok-put.ensures.ok c.declare-new.ensures.flags c.in_ok-put.ensures.room c.declare-new.ensures.length c.later-clock.ensures).kept

pub returns-clause-ok : goal.returns-clause-ok
returns-clause-ok c =
    let accepted = subst (λ (v : Controller). CanTake v (Got c.args.from c.args.clock (Probe c.args.ask.now.origin c.args.ask.now.stamp c.args.sender c.args.at))) (sym c.self.view_is) c.requires in
    let acts = ap (λ (v : Controller). probe_acts (state_of v) c.args.ask.now.origin c.args.ask.now.stamp c.args.sender c.args.at) c.self.view_is ∙ sym c.acts-acts.ensures ∙ c.if-not-acts.false in
    let sees = c.in_ok-sight.ensures (state_of (the_view c.self.inside)) (are_waits (the_view c.self.inside) c.self.invariant) in
    let moves = probe_moves (the_view c.self.inside) c.self.invariant c.args.from c.args.clock c.args.ask.now.origin c.args.ask.now.stamp c.args.sender c.args.at c.later-clock.result c.in_ok-sight.sight.sent.items c.in_ok-sight.sight.deadlocked
    c.declare-new.result c.put.new.self c.declare-new.new.declared.items (record { sent = c.new-2.result; declared = c.declaration.result }) accepted c.new-2.ensures c.declaration.ensures acts c.declare-new.ensures.new sees
    c.in_ok-put.ensures.ok c.declare-new.ensures.flags c.in_ok-put.ensures.room c.declare-new.ensures.length c.later-clock.ensures in
    steps_from _ _ _ _ _ c.self.view_is moves.steps
