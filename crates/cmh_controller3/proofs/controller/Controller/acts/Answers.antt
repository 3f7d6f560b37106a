use Rattle.std.proofs.Common.{◌≡◌, ◌∙◌, ◌&&◌, is_lt, ltb, nat_cmp, rules, true, ap}
use Rattle.cmh_model3.specs.State.{passes}
use Rattle.cmh_controller3.specs.Controller.{Controller, state_of}
use Rattle.cmh_controller3.proofs.controller.Controller.acts.Goals as goal

pub returns : goal.returns
returns c =
    let v = state_of c.args.self.now in
    let ask = c.args.ask.now in
    let at = c.args.at in
    let passing : true ≡ passes v ask.stamp ask.origin at = c.if-not-passes.ensures ∙ ap (λ (k : Controller). passes (state_of k) ask.stamp ask.origin at) c.self.view_is in
    let mark : c.get.result ≡ v.marks at ask.origin = c.get.ensures ∙ ap (λ (k : Controller). (state_of k).marks at ask.origin) c.self.view_is in
    let compared : is_lt (nat_cmp c.get.result ask.stamp) ≡ ltb c.get.result ask.stamp = search rules in
    let older : c.lt.result ≡ ltb (v.marks at ask.origin) ask.stamp = c.lt.ensures ∙ compared ∙ ap (λ n. ltb n ask.stamp) mark in
    older ∙ ap (λ z. (z && true) && ltb (v.marks at ask.origin) ask.stamp) passing ∙ ap (λ z. (passes v ask.stamp ask.origin at && z) && ltb (v.marks at ask.origin) ask.stamp) c.if-not-owes.ensures
