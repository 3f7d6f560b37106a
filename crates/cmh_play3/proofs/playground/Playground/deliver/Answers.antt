use Rattle.std.proofs.Common.{◌≡◌, ℕ, List, None, drop, refl, ap, sym, subst, ◌∙◌, slice_get}
use Rattle.cmh_model3.specs.declared.event.Event.{Event}
use Rattle.cmh_model3.specs.declared.event.Event.TheVariants.{Got}
use Rattle.cmh_model3.specs.declared.frame.Message.{Message}
use Rattle.cmh_model3.specs.Journals.{message_from}
use Rattle.cmh_model3.specs.Runs as runs
use Rattle.cmh_model3.specs.Runs.{IsBeginningOf, state_of}
use Rattle.cmh_model3.proofs.Deliveries.{deliveries_accepted}
use Rattle.cmh_topology3.specs.Topology.{site_of}
use Rattle.cmh_play3.specs.Held.{LeadsTo, world_of}
use Rattle.cmh_play3.specs.Inner.Stepped.{IsStep}
use Rattle.cmh_play3.specs.World.{World}
use Rattle.cmh_play3.specs.declared.playground.Step.{Step}
use Rattle.cmh_play3.proofs.Delivering.{first_front, front_next, no_front, only_memory}
use Rattle.cmh_play3.proofs.playground.Playground.deliver.Goals as goal

pub returns-in_default : goal.returns-in_default
returns-in_default c = λ es p.
    let queue = runs.under_way c.args.from c.args.to es in
    let none : slice_get queue 0 ≡ None = sym (ap (λ (ms : List Message). slice_get ms 0) (p.links c.args.from c.args.to)) ∙ sym c.front.ensures ∙ c.in_default.is in
    record {
      events = es;
      played = p;
      done = ((sym c.is_link.ensures ∙ c.if-not-is_link.false, sym c.is_cut.ensures ∙ c.if-is_cut.false, no_front queue none), refl);
    }

pub step-requires-clause-next : goal.step-requires-clause-next
step-requires-clause-next c = λ es p.
    let some = sym (ap (λ (ms : List Message). slice_get ms 0) (p.links c.args.from c.args.to)) ∙ sym c.front.ensures ∙ c.in-Some.is in
    subst (λ (event : Event). (a : ℕ) → IsBeginningOf (message_from a event) (runs.under_way a c.args.to es)) (sym c.got.ensures)
    (front_next (λ x. runs.under_way x c.args.to es) c.args.from c.in-Some.message some)

pub returns-in-Taken : goal.returns-in-Taken
returns-in-Taken c = λ es p.
    let old = c.args.self.now in
    let a = c.args.from in
    let b = c.args.to in
    let m = c.in-Some.message in
    let queue = runs.under_way a b es in
    let some = sym (ap (λ (ms : List Message). slice_get ms 0) (p.links a b)) ∙ sym c.front.ensures ∙ c.in-Some.is in
    let leads = subst (λ (step : Step). LeadsTo c.step.new.self (λ (w : World). IsStep (world_of old es) w b (Got a m.clock m.frame) step)) c.in-Taken.is
    (subst (λ (event : Event). LeadsTo c.step.new.self (λ (w : World). IsStep (world_of old es) w b event c.in_ok-done.field-0)) c.got.ensures (c.in_ok-done.ensures es p)) in
    record {
      events = leads.events;
      played = leads.played;
      done = (m, drop 1 queue, (sym c.is_link.ensures ∙ c.if-not-is_link.false, sym c.is_cut.ensures ∙ c.if-is_cut.false, sym (first_front queue m some)), refl, leads.done);
    }

pub returns-in-Refused : goal.returns-in-Refused
returns-in-Refused c = λ es p.
    let old = c.args.self.now in
    let home = site_of old.topology in
    let a = c.args.from in
    let b = c.args.to in
    let m = c.in-Some.message in
    let queue = runs.under_way a b es in
    let some = sym (ap (λ (ms : List Message). slice_get ms 0) (p.links a b)) ∙ sym c.front.ensures ∙ c.in-Some.is in
    let next = sym (first_front queue m some) in
    let leads = subst (λ (step : Step). LeadsTo c.step.new.self (λ (w : World). IsStep (world_of old es) w b (Got a m.clock m.frame) step)) c.in-Refused.is
    (subst (λ (event : Event). LeadsTo c.step.new.self (λ (w : World). IsStep (world_of old es) w b event c.in_ok-done.field-0)) c.got.ensures (c.in_ok-done.ensures es p)) in
    let accepts = deliveries_accepted home es p.run a b m (drop 1 queue) next in
    record {
      events = leads.events;
      played = leads.played;
      done = (
        m,
        drop 1 queue,
        (sym c.is_link.ensures ∙ c.if-not-is_link.false, sym c.is_cut.ensures ∙ c.if-is_cut.false, next),
        only_memory home b (state_of home b es) a m.clock m.frame c.in-Refused.refusal accepts leads.done.0,
        leads.done.1,
      );
    }
