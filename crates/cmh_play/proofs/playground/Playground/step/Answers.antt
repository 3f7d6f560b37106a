use Rattle.std.proofs.Common.{set, sym, subst}
use Rattle.std.proofs.lemmas.Result.{IfOk-weaker}
use Rattle.cmh_play.specs.Held.{Held, IsTaken, IsWorldStep, Leads, Shows}
use Rattle.cmh_play.specs.World.{World}
use Rattle.cmh_play.specs.declared.site.Step.{Step}
use Rattle.cmh_play.proofs.Steps.{step_shown}
use Rattle.cmh_play.proofs.playground.Playground.step.Goals as goal

pub returns : goal.returns
returns c =
    let s = c.args.site in
    let place = c.place_of-place.result in
    let old = c.index_mut.result.now in
    let held : Held = record { topology = c.self.inside.topology; controllers = c.self.inside.controllers.items; history = c.self.inside.history; links = c.self.inside.links } in
    let new : Held = record { topology = held.topology; controllers = set held.controllers place c.take.new.controller; history = c.take.new.history; links = c.take.new.links } in
    IfOk-weaker c.take.result (λ (step : Step). IsTaken old c.take.new.controller place held.history c.take.new.history held.links c.take.new.links c.args.event step)
    (λ (step : Step). Leads (λ (before later : World). IsWorldStep before later s c.args.event step) c.args.self.now new)
    (λ step taken keeps world shown.
    step_shown keeps world held (subst (λ (h : Held). Shows keeps world h) (sym c.self.view_is) shown) s place c.place_of-place.ensures.within c.place_of-place.ensures.site
    c.whole_law.ensures.grows old c.take.new.controller c.index_mut.ensures.value c.take.new.history c.take.new.links c.args.event step taken)
    c.take.ensures.step
