use Rattle.std.proofs.Common.{◌≡◌, ℕ, List, Option, Some, ◌++◌, ap, sym, subst, ◌∙◌}
use Rattle.std.specs.Prelude.{MatchOption}
use Rattle.cmh_model3.specs.declared.frame.Message.{Message}
use Rattle.cmh_model3.specs.Runs.{under_way}
use Rattle.cmh_topology3.specs.Topology.{home}
use Rattle.cmh_play3.specs.Held.{LeadsTo, world_of}
use Rattle.cmh_play3.specs.Inner.Stepped.{IsStep}
use Rattle.cmh_play3.specs.World.{ActsOn, IsUnknown, World}
use Rattle.cmh_play3.specs.declared.playground.Step.{Step}
use Rattle.cmh_play3.specs.declared.reply.Reply.TheVariants.{Taken}
use Rattle.cmh_play3.proofs.Places.{is_site-home}
use Rattle.cmh_play3.proofs.playground.Playground.act.Goals as goal

pub step-requires-clause-site : goal.step-requires-clause-site
step-requires-clause-site c = is_site-home c.args.self.now.topology c.args.process c.in-Some.site (sym c.home.ensures ∙ c.in-Some.is)

pub step-requires-clause-next : goal.step-requires-clause-next
step-requires-clause-next c = λ events p a.
    let queue = under_way a c.in-Some.site events in
    (queue, ap (λ (ms : List Message). ms ++ queue) (c.requires.own a))

pub returns-in-Taken : goal.returns-in-Taken
returns-in-Taken c = λ es p.
    let old = c.args.self.now in
    let s = c.in-Some.site in
    let event = c.args.event in
    let at : home old.topology c.args.process ≡ Some s = sym c.home.ensures ∙ c.in-Some.is in
    let leads = subst (λ (step : Step). LeadsTo c.step.new.self (λ (w : World). IsStep (world_of old es) w s event step)) c.in-Taken.is (c.in_ok-done.ensures es p) in
    record {
      events = leads.events;
      played = leads.played;
      done = subst (λ (o : Option ℕ). MatchOption o (IsUnknown (world_of old es) (world_of c.step.new.self leads.events) (Taken c.in-Taken.done))
          (λ q. ActsOn (world_of old es) (world_of c.step.new.self leads.events) q event (Taken c.in-Taken.done))) (sym at) leads.done;
    }
