use Rattle.std.proofs.Common.{ap, sym, subst, ◌∙◌}
use Rattle.cmh_frames.specs.Topology.{home}
use Rattle.cmh_play.specs.declared.site.Step.{Step}
use Rattle.cmh_play.specs.Held.{Held, IsWorldStep, Leads}
use Rattle.cmh_play.specs.World.{World}
use Rattle.cmh_play.proofs.Homes.{is_site-home}
use Rattle.cmh_play.proofs.Leading.{refused_led, taken_led}
use Rattle.cmh_play.proofs.playground.Playground.act.Goals as goal

pub step-requires : goal.step-requires
step-requires c =
    is_site-home c.args.self.now.topology c.args.process c.in-Some.site
    (ap (λ (w : Held). home w.topology c.args.process) (sym c.self.view_is) ∙ sym c.home.ensures ∙ c.in-Some.is)

pub returns-in-Taken : goal.returns-in-Taken
returns-in-Taken c =
    let s = c.in-Some.site in
    taken_led c.args.self.now c.step.new.self c.args.process c.args.event s
    (ap (λ (w : Held). home w.topology c.args.process) (sym c.self.view_is) ∙ sym c.home.ensures ∙ c.in-Some.is) c.in-Taken.done
    (subst (λ (step : Step). Leads (λ (before later : World). IsWorldStep before later s c.args.event step) c.args.self.now c.step.new.self) c.in-Taken.is c.in_ok-done.ensures)

pub returns-in-Refused : goal.returns-in-Refused
returns-in-Refused c =
    let s = c.in-Some.site in
    refused_led c.args.self.now c.step.new.self c.args.process c.args.event s
    (ap (λ (w : Held). home w.topology c.args.process) (sym c.self.view_is) ∙ sym c.home.ensures ∙ c.in-Some.is) c.in-Refused.refused
    (subst (λ (step : Step). Leads (λ (before later : World). IsWorldStep before later s c.args.event step) c.args.self.now c.step.new.self) c.in-Refused.is c.in_ok-done.ensures)
