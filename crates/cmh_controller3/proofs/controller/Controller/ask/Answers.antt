use Rattle.std.proofs.Common.{◌≡◌, ◌∙◌, sym, ap, subst}
use Rattle.cmh_model3.specs.declared.event.Event.TheVariants.{Ask}
use Rattle.cmh_controller3.specs.Controller.{Controller, home_of}
use Rattle.cmh_controller3.specs.Steps.{CanTake}
use Rattle.cmh_controller3.specs.contracts.controller.Controller.{the_view}
use Rattle.std.proofs.Common.{◌+◌, false}
use Rattle.std.proofs.Math.ListN.{set}
use Rattle.std.proofs.lemmas.List.{length-set}
use Rattle.cmh_model3.specs.Lists.{set_at}
use Rattle.cmh_model3.specs.Rules.{changed}
use Rattle.cmh_controller3.specs.Controller.{state_of}
use Rattle.cmh_controller3.specs.Tables.{flags_of, stamps_of}
use Rattle.cmh_controller3.proofs.Looking.{begun, of_site_begun}
use Rattle.cmh_controller3.proofs.Moving.{ask_moves, steps_from}
use Rattle.cmh_controller3.proofs.Tables.{table_set}
use Rattle.cmh_controller3.proofs.controller.Controller.ask.Goals as goal

pub look_from_ask-requires-clause-of_site : goal.look_from_ask-requires-clause-of_site
look_from_ask-requires-clause-of_site c =
    let accepted = subst (λ (v : Controller). CanTake v (Ask c.args.asker c.args.targets.now)) (sym c.self.view_is) c.requires in
    of_site_begun (the_view c.self.inside) c.self.invariant c.args.asker c.args.targets.now c.begin.new.self accepted c.in_ok-begin.ensures.members c.in_ok-begin.ensures.waits

pub invariant_of-self-in-Ok : goal.invariant_of-self-in-Ok
invariant_of-self-in-Ok c =
    let accepted = subst (λ (v : Controller). CanTake v (Ask c.args.asker c.args.targets.now)) (sym c.self.view_is) c.requires in
    let ticks : c.new-stamp.result ≡ c.self.inside.clock + 1 = c.new-stamp.ensures ∙ ap (λ n. n + 1) c.get.ensures in
    let inside_flags = c.self.invariant.declared_room c.args.asker accepted.0 in
    let inside_stamps = c.self.invariant.stamps_room c.args.asker accepted.0 in
    let flags : flags_of (set c.self.inside.declared.items c.get-in-Ok-2.result c.in-Ok.sight.deadlocked) ≡ set_at (flags_of c.self.inside.declared.items) c.args.asker c.in-Ok.sight.deadlocked =
    ap (λ n. flags_of (set c.self.inside.declared.items n c.in-Ok.sight.deadlocked)) c.get-in-Ok-2.ensures.value ∙ table_set c.self.inside.declared.items c.args.asker c.in-Ok.sight.deadlocked false inside_flags in
    let stamps : stamps_of (set c.self.inside.stamps.items c.get-in-Ok.result c.new-stamp.result) ≡ set_at (stamps_of c.self.inside.stamps.items) c.args.asker c.new-stamp.result =
    ap (λ n. stamps_of (set c.self.inside.stamps.items n c.new-stamp.result)) c.get-in-Ok.ensures.value ∙ table_set c.self.inside.stamps.items c.args.asker c.new-stamp.result 0 inside_stamps in
    (ask_moves (the_view c.self.inside) c.self.invariant c.args.asker c.args.targets.now c.new-stamp.result c.in_ok-sent.sent.items c.in-Ok.sight.sent.items c.in-Ok.sight.deadlocked c.begin.new.self
    _ _ (record { sent = c.new.result; declared = c.declaration.result }) accepted ticks c.in_ok-sent.ensures c.new.ensures c.declaration.ensures
    (c.in-Ok.ensures (changed (home_of (the_view c.self.inside)) c.self.inside.site (state_of (the_view c.self.inside)) (Ask c.args.asker c.args.targets.now)) (begun (the_view c.self.inside) c.self.invariant c.args.asker c.args.targets.now c.new-stamp.result c.begin.new.self ticks c.in_ok-begin.ensures.members c.in_ok-begin.ensures.waits c.in_ok-begin.ensures.since))
    c.in_ok-begin.ensures.waits c.in_ok-begin.ensures.since flags stamps c.in_ok-begin.ensures.members (length-set c.self.inside.declared.items c.get-in-Ok-2.result c.in-Ok.sight.deadlocked) (length-set c.self.inside.stamps.items c.get-in-Ok.result c.new-stamp.result)).kept

pub returns-in-Ok-clause-ok : goal.returns-in-Ok-clause-ok
returns-in-Ok-clause-ok c =
    let accepted = subst (λ (v : Controller). CanTake v (Ask c.args.asker c.args.targets.now)) (sym c.self.view_is) c.requires in
    let ticks : c.new-stamp.result ≡ c.self.inside.clock + 1 = c.new-stamp.ensures ∙ ap (λ n. n + 1) c.get.ensures in
    let inside_flags = c.self.invariant.declared_room c.args.asker accepted.0 in
    let inside_stamps = c.self.invariant.stamps_room c.args.asker accepted.0 in
    let flags : flags_of (set c.self.inside.declared.items c.get-in-Ok-2.result c.in-Ok.sight.deadlocked) ≡ set_at (flags_of c.self.inside.declared.items) c.args.asker c.in-Ok.sight.deadlocked =
    ap (λ n. flags_of (set c.self.inside.declared.items n c.in-Ok.sight.deadlocked)) c.get-in-Ok-2.ensures.value ∙ table_set c.self.inside.declared.items c.args.asker c.in-Ok.sight.deadlocked false inside_flags in
    let stamps : stamps_of (set c.self.inside.stamps.items c.get-in-Ok.result c.new-stamp.result) ≡ set_at (stamps_of c.self.inside.stamps.items) c.args.asker c.new-stamp.result =
    ap (λ n. stamps_of (set c.self.inside.stamps.items n c.new-stamp.result)) c.get-in-Ok.ensures.value ∙ table_set c.self.inside.stamps.items c.args.asker c.new-stamp.result 0 inside_stamps in
    let moves = ask_moves (the_view c.self.inside) c.self.invariant c.args.asker c.args.targets.now c.new-stamp.result c.in_ok-sent.sent.items c.in-Ok.sight.sent.items c.in-Ok.sight.deadlocked c.begin.new.self
    _ _ (record { sent = c.new.result; declared = c.declaration.result }) accepted ticks c.in_ok-sent.ensures c.new.ensures c.declaration.ensures
    (c.in-Ok.ensures (changed (home_of (the_view c.self.inside)) c.self.inside.site (state_of (the_view c.self.inside)) (Ask c.args.asker c.args.targets.now)) (begun (the_view c.self.inside) c.self.invariant c.args.asker c.args.targets.now c.new-stamp.result c.begin.new.self ticks c.in_ok-begin.ensures.members c.in_ok-begin.ensures.waits c.in_ok-begin.ensures.since))
    c.in_ok-begin.ensures.waits c.in_ok-begin.ensures.since flags stamps c.in_ok-begin.ensures.members (length-set c.self.inside.declared.items c.get-in-Ok-2.result c.in-Ok.sight.deadlocked) (length-set c.self.inside.stamps.items c.get-in-Ok.result c.new-stamp.result) in
    steps_from _ _ _ _ _ c.self.view_is moves.steps
