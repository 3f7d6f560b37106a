use Rattle.std.proofs.Common.{◌≡◌, ap, sym, ◌∙◌, subst, true}
use Rattle.cmh_frames.specs.declared.event.Event.{Event}
use Rattle.cmh_frames.specs.declared.event.Event.TheVariants.{Got}
use Rattle.cmh_play.specs.declared.site.Step.{Step}
use Rattle.cmh_play.specs.declared.site.Step.TheVariants.{Taken, Refused as StepRefused}
use Rattle.cmh_play.specs.Held.{Held, IsWorldStep, Leads}
use Rattle.cmh_play.specs.Links.{link_of, next_of}
use Rattle.cmh_play.specs.World.{World, joins}
use Rattle.cmh_play.proofs.Leading.{got_led, stays_led}
use Rattle.cmh_play.proofs.playground.Playground.deliver.Goals as goal

pub returns-in-Taken : goal.returns-in-Taken
returns-in-Taken c =
    let a = c.args.from in
    let b = c.args.to in
    let done = c.in-Taken.done in
    let mid : Held = record { topology = c.self-2.inside.topology; controllers = c.self-2.inside.controllers.items; history = c.self-2.inside.history; links = c.self-2.inside.links } in
    let on : joins c.args.self.now.topology a b ≡ true = sym c.is_link.ensures ∙ c.if-not-is_link.false in
    let led : Leads (λ (before later : World). IsWorldStep before later b (Got a c.in-Some.frame) (Taken done)) c.args.self.now c.step.new.self =
    subst (λ (e : Event). Leads (λ (before later : World). IsWorldStep before later b e (Taken done)) c.args.self.now c.step.new.self) c.got.ensures
    (subst (λ (s : Step). Leads (λ (before later : World). IsWorldStep before later b c.got.result s) c.args.self.now c.step.new.self) c.in-Taken.is c.in_ok-done.ensures) in
    let here : Leads (λ (before later : World). IsWorldStep before later b (Got a c.in-Some.frame) (Taken done)) c.args.self.now mid =
    subst (λ (h : Held). Leads (λ (before later : World). IsWorldStep before later b (Got a c.in-Some.frame) (Taken done)) c.args.self.now h) (sym c.self-2.view_is) led in
    got_led c.args.self.now a b on c.in-Some.frame (ap (λ (h : Held). next_of (link_of h.links a b)) (sym c.self.view_is) ∙ sym c.front.ensures ∙ c.in-Some.is)
    mid c.drop_front.new.self done here c.drop_front.ensures

pub returns-in-Refused : goal.returns-in-Refused
returns-in-Refused c =
    let a = c.args.from in
    let b = c.args.to in
    let refused = c.in-Refused.refused in
    let on : joins c.args.self.now.topology a b ≡ true = sym c.is_link.ensures ∙ c.if-not-is_link.false in
    stays_led c.args.self.now a b on c.in-Some.frame (ap (λ (h : Held). next_of (link_of h.links a b)) (sym c.self.view_is) ∙ sym c.front.ensures ∙ c.in-Some.is)
    c.step.new.self refused
    (subst (λ (e : Event). Leads (λ (before later : World). IsWorldStep before later b e (StepRefused refused)) c.args.self.now c.step.new.self) c.got.ensures
    (subst (λ (s : Step). Leads (λ (before later : World). IsWorldStep before later b c.got.result s) c.args.self.now c.step.new.self) c.in-Refused.is c.in_ok-done.ensures))
