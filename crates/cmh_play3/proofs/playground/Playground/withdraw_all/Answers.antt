use Rattle.std.proofs.Common.{◌≡◌, ℕ, List, Option, Some, ap, sym, subst, ◌∙◌}
use Rattle.std.specs.Prelude.{MatchOption}
use Rattle.cmh_controller3.specs.declared.refusal.Refusal.{Refusal}
use Rattle.cmh_model3.specs.declared.event.Event.TheVariants.{Withdraw}
use Rattle.cmh_model3.specs.Runs.{state_of}
use Rattle.cmh_model3.specs.State.{State}
use Rattle.cmh_topology3.specs.Topology.{home, site_of}
use Rattle.cmh_play3.specs.Held.{LeadsTo, world_of}
use Rattle.cmh_play3.specs.Inner.Stepped.{IsStep}
use Rattle.cmh_play3.specs.World.{ActsOn, IsReason, IsUnknown, Steps, World}
use Rattle.cmh_play3.specs.declared.playground.Step.{Step}
use Rattle.cmh_play3.specs.declared.reply.Reply.TheVariants.{Refused, Taken}
use Rattle.cmh_play3.proofs.Places.{is_site-home}
use Rattle.cmh_play3.proofs.Taking.{c_site, c_state}
use Rattle.cmh_play3.proofs.playground.Playground.withdraw_all.Goals as goal

pub place_of-place-requires : goal.place_of-place-requires
place_of-place-requires c = is_site-home c.args.self.now.topology c.args.process c.in-Some.site (sym c.home.ensures ∙ c.in-Some.is)

pub returns-in-Taken : goal.returns-in-Taken
returns-in-Taken c = λ es p.
    let old = c.args.self.now in
    let t = old.topology in
    let s = c.in-Some.site in
    let place = c.place_of-place in
    let j = c.args.process in
    let at : home t j ≡ Some s = sym c.home.ensures ∙ c.in-Some.is in
    let state = c_state t old.controllers.items es p.run p.stand s place.result place.ensures.within place.ensures.site c.index.result.now c.index.ensures
    ∙ ap (λ (q : ℕ). state_of (site_of t) q es) (c_site t old.controllers.items es p.run p.stand s place.result place.ensures.within place.ensures.site c.index.result.now c.index.ensures) in
    let targets : c.new-targets.result ≡ (state_of (site_of t) s es).waits j = c.new-targets.ensures ∙ c.in_ok-waits_of.ensures ∙ ap (λ (v : State). v.waits j) state in
    let leads = subst (λ (step : Step). LeadsTo c.step.new.self (λ (w : World). IsStep (world_of old es) w s (Withdraw j c.new-targets.result) step)) c.in-Taken.is (c.in_ok-done.ensures es p) in
    record {
      events = leads.events;
      played = leads.played;
      done = subst (λ (o : Option ℕ). MatchOption o (IsUnknown (world_of old es) (world_of c.step.new.self leads.events) (Taken c.in-Taken.done))
          (λ q. ActsOn (world_of old es) (world_of c.step.new.self leads.events) q (Withdraw j ((state_of (site_of t) q es).waits j)) (Taken c.in-Taken.done))) (sym at)
          (subst (λ (ks : List ℕ). Steps (world_of old es) (world_of c.step.new.self leads.events) s (Withdraw j ks) c.in-Taken.done) targets leads.done);
    }

pub returns-in-Refused : goal.returns-in-Refused
returns-in-Refused c = λ es p.
    let old = c.args.self.now in
    let t = old.topology in
    let s = c.in-Some.site in
    let place = c.place_of-place in
    let j = c.args.process in
    let reason : Refusal = c.in-Refused.refusal in
    let at : home t j ≡ Some s = sym c.home.ensures ∙ c.in-Some.is in
    let state = c_state t old.controllers.items es p.run p.stand s place.result place.ensures.within place.ensures.site c.index.result.now c.index.ensures
    ∙ ap (λ (q : ℕ). state_of (site_of t) q es) (c_site t old.controllers.items es p.run p.stand s place.result place.ensures.within place.ensures.site c.index.result.now c.index.ensures) in
    let targets : c.new-targets.result ≡ (state_of (site_of t) s es).waits j = c.new-targets.ensures ∙ c.in_ok-waits_of.ensures ∙ ap (λ (v : State). v.waits j) state in
    let leads = subst (λ (step : Step). LeadsTo c.step.new.self (λ (w : World). IsStep (world_of old es) w s (Withdraw j c.new-targets.result) step)) c.in-Refused.is (c.in_ok-done.ensures es p) in
    record {
      events = leads.events;
      played = leads.played;
      done = subst (λ (o : Option ℕ). MatchOption o (IsUnknown (world_of old es) (world_of c.step.new.self leads.events) (Refused reason))
          (λ q. ActsOn (world_of old es) (world_of c.step.new.self leads.events) q (Withdraw j ((state_of (site_of t) q es).waits j)) (Refused reason))) (sym at)
          (subst (λ (ks : List ℕ). IsReason (world_of old es) s (Withdraw j ks) reason) targets leads.done.0, leads.done.1);
    }
