use Rattle.std.proofs.Common.{◌≡◌, ◌∙◌, false, sym, ap, subst}
use Rattle.std.proofs.Math.ListN.{set}
use Rattle.std.proofs.lemmas.List.{length-set}
use Rattle.cmh_model3.specs.declared.event.Event.TheVariants.{Ask}
use Rattle.cmh_model3.specs.Lists.{set_at}
use Rattle.cmh_waits3.specs.Held.{Held}
use Rattle.cmh_controller3.specs.Controller.{Controller}
use Rattle.cmh_controller3.specs.Inner.Between.{StandsBetween}
use Rattle.cmh_controller3.specs.Tables.{flags_of, stamps_of}
use Rattle.cmh_controller3.specs.contracts.controller.Controller.{the_view}
use Rattle.cmh_controller3.proofs.Halves.{here_too}
use Rattle.cmh_controller3.proofs.Tables.{table_set}
use Rattle.cmh_controller3.proofs.TakenBack.{ask_back}
use Rattle.cmh_controller3.proofs.controller.Controller.forget_ask.Goals as goal

pub invariant_of-self : goal.invariant_of-self
invariant_of-self c =
    let mid = the_view c.self.inside in
    let old = c.requires.0 in
    let prepares = subst (λ (v : Controller). StandsBetween old (Ask c.args.asker c.args.targets.now) c.args.before.now c.requires.1 v) (sym c.self.view_is) c.requires.2 in
    let here = here_too old mid prepares.topology prepares.site (λ home s. home c.args.asker ≡ s) prepares.accepted.0 in
    let room = c.self.invariant.declared_room c.args.asker here in
    let stamps_room = c.self.invariant.stamps_room c.args.asker here in
    let flags : flags_of (set c.self.inside.declared.items c.get-2.result c.args.before.now.declared) ≡ set_at (flags_of c.self.inside.declared.items) c.args.asker c.args.before.now.declared =
    ap (λ n. flags_of (set c.self.inside.declared.items n c.args.before.now.declared)) c.get-2.ensures.value ∙ table_set c.self.inside.declared.items c.args.asker c.args.before.now.declared false room in
    let stamps : stamps_of (set c.self.inside.stamps.items c.get.result c.args.before.now.stamp) ≡ set_at (stamps_of c.self.inside.stamps.items) c.args.asker c.args.before.now.stamp =
    ap (λ n. stamps_of (set c.self.inside.stamps.items n c.args.before.now.stamp)) c.get.ensures.value ∙ table_set c.self.inside.stamps.items c.args.asker c.args.before.now.stamp 0 stamps_room in
    (ask_back old mid c.self.invariant c.args.before.now c.requires.1 c.args.asker c.args.targets.now c.end_all.new.self _ _ prepares c.end_all.ensures.waits c.end_all.ensures.since flags stamps
    (ap (λ (w : Held). w.members) c.end_all.ensures.value) (length-set c.self.inside.declared.items c.get-2.result c.args.before.now.declared) (length-set c.self.inside.stamps.items c.get.result c.args.before.now.stamp)).kept

pub returns : goal.returns
returns c = λ old d given.
    let mid = the_view c.self.inside in
    let prepares = subst (λ (v : Controller). StandsBetween old (Ask c.args.asker c.args.targets.now) c.args.before.now d v) (sym c.self.view_is) given in
    let here = here_too old mid prepares.topology prepares.site (λ home s. home c.args.asker ≡ s) prepares.accepted.0 in
    let room = c.self.invariant.declared_room c.args.asker here in
    let stamps_room = c.self.invariant.stamps_room c.args.asker here in
    let flags : flags_of (set c.self.inside.declared.items c.get-2.result c.args.before.now.declared) ≡ set_at (flags_of c.self.inside.declared.items) c.args.asker c.args.before.now.declared =
    ap (λ n. flags_of (set c.self.inside.declared.items n c.args.before.now.declared)) c.get-2.ensures.value ∙ table_set c.self.inside.declared.items c.args.asker c.args.before.now.declared false room in
    let stamps : stamps_of (set c.self.inside.stamps.items c.get.result c.args.before.now.stamp) ≡ set_at (stamps_of c.self.inside.stamps.items) c.args.asker c.args.before.now.stamp =
    ap (λ n. stamps_of (set c.self.inside.stamps.items n c.args.before.now.stamp)) c.get.ensures.value ∙ table_set c.self.inside.stamps.items c.args.asker c.args.before.now.stamp 0 stamps_room in
    (ask_back old mid c.self.invariant c.args.before.now d c.args.asker c.args.targets.now c.end_all.new.self _ _ prepares c.end_all.ensures.waits c.end_all.ensures.since flags stamps
    (ap (λ (w : Held). w.members) c.end_all.ensures.value) (length-set c.self.inside.declared.items c.get-2.result c.args.before.now.declared) (length-set c.self.inside.stamps.items c.get.result c.args.before.now.stamp)).back
