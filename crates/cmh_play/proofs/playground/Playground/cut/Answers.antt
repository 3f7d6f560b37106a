use Rattle.std.proofs.Common.{◌≡◌, ap, sym, ◌∙◌, subst, true}
use Rattle.cmh_console.specs.declared.script.Command.TheVariants.{Cut}
use Rattle.cmh_play.specs.declared.reply.Reply.TheVariants.{Lost}
use Rattle.cmh_play.specs.Held.{Held, Leads}
use Rattle.cmh_play.specs.Links.{link_of}
use Rattle.cmh_play.specs.World.{World, CarriesOut, joins}
use Rattle.cmh_play.proofs.Leading.{cut_led, open_counted}
use Rattle.cmh_play.proofs.playground.Playground.cut.Goals as goal

pub returns : goal.returns
returns c =
    let a = c.args.from in
    let b = c.args.to in
    let held : Held = record { topology = c.self.inside.topology; controllers = c.self.inside.controllers.items; history = c.self.inside.history; links = c.self.inside.links } in
    let new : Held = record { topology = c.self.inside.topology; controllers = c.self.inside.controllers.items; history = c.self.inside.history; links = c.cut.new.self } in
    let on : joins held.topology a b ≡ true = ap (λ (h : Held). joins h.topology a b) c.self.view_is ∙ sym c.is_link.ensures ∙ c.if-not-is_link.false in
    let way = open_counted (link_of held.links a b) c.len-lost.result (sym c.is_cut.ensures ∙ c.if-is_cut.false) c.len-lost.ensures in
    subst (λ (h : Held). Leads (λ (before later : World). CarriesOut before later (Cut a b) (Lost c.len-lost.result)) h new) c.self.view_is
    (cut_led held a b on c.cut.new.self c.len-lost.result way.0 way.1 way.2 c.in_ok-cut.ensures.ok)
