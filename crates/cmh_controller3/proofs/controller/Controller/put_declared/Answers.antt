use Rattle.std.proofs.Common.{◌≡◌, ◌∙◌, ap, arith, sym, subst, true, false}
use Rattle.std.proofs.Math.ListN.{set}
use Rattle.std.proofs.lemmas.List.{length-set}
use Rattle.cmh_model3.specs.Lists.{set_at}
use Rattle.cmh_model3.specs.State.{is_blocked}
use Rattle.cmh_controller3.specs.Controller.{Controller, state_of}
use Rattle.cmh_controller3.specs.Restoring.{Takes, with_declared}
use Rattle.cmh_controller3.specs.Tables.{flags_of}
use Rattle.cmh_controller3.specs.contracts.controller.Controller.{the_view}
use Rattle.cmh_controller3.proofs.Restored.{blocked_here, gets_declared}
use Rattle.cmh_controller3.proofs.Tables.{table_set}
use Rattle.cmh_controller3.proofs.controller.Controller.put_declared.Goals as goal

pub index_mut-requires : goal.index_mut-requires
index_mut-requires c =
    let blocked : is_blocked (state_of (the_view c.self.inside)) c.args.process ≡ true = sym c.is_blocked.ensures ∙ c.if-not-is_blocked.false in
    let inside = c.self.invariant.declared_room c.args.process (blocked_here (the_view c.self.inside) c.self.invariant c.args.process blocked) in
    omega (arith, inside, c.get.ensures.value, c.self.inside.declared.ok.0)

pub returns-clause-ok : goal.returns-clause-ok
returns-clause-ok c =
    let blocked : is_blocked (state_of (the_view c.self.inside)) c.args.process ≡ true = sym c.is_blocked.ensures ∙ c.if-not-is_blocked.false in
    let inside = c.self.invariant.declared_room c.args.process (blocked_here (the_view c.self.inside) c.self.invariant c.args.process blocked) in
    let set_is : flags_of (set c.self.inside.declared.items c.get.result true) ≡ set_at (flags_of c.self.inside.declared.items) c.args.process true =
    ap (λ n. flags_of (set c.self.inside.declared.items n true)) c.get.ensures.value ∙ table_set c.self.inside.declared.items c.args.process true false inside in
    let takes = (gets_declared (the_view c.self.inside) c.self.invariant c.args.process (set c.self.inside.declared.items c.get.result true) blocked set_is (length-set c.self.inside.declared.items c.get.result true)).takes in
    subst (λ (v : Controller). Takes (is_blocked (state_of v) c.args.process ≡ true) (with_declared (state_of v) c.args.process) v
    (record { topology = c.self.inside.topology; site = c.self.inside.site; kept = record (the_view c.self.inside).kept { declared = set c.self.inside.declared.items c.get.result true } })) c.self.view_is takes
