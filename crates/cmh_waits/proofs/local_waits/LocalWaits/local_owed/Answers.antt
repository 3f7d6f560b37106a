use Rattle.std.proofs.Common.{◌∙◌, sym, subst, arith}
use Rattle.std.proofs.lemmas.List.{get_or_default}
use Rattle.std.specs.List.Sorted.{IsStrictlyIncreasing}
use Rattle.cmh_waits.proofs.Shown.{local_all, local_up, no_local, turned, turned_is}
use Rattle.cmh_waits.proofs.local_waits.LocalWaits.local_owed.Goals as goal

pub returns-in-Some-clause-ascending : goal.returns-in-Some-clause-ascending
returns-in-Some-clause-ascending c = local_up c.members_of.result c.as_slice.result.now _ (subst IsStrictlyIncreasing (sym c.as_slice.ensures) c.self.invariant.2.ascending) c.members_of.ensures

pub returns-in-Some-clause-all : goal.returns-in-Some-clause-all
returns-in-Some-clause-all c =
    let w = c.self.inside in
    let p = c.in-Some.place in
    let at = c.in-Some.ensures in
    let are = c.self.invariant.1 in
    let row = c.index.ensures ∙ get_or_default w.owed.items p c.index.result.now 0 (omega (arith, at.0, are.rows_len)) in
    local_all (turned c.args.self.now) w.members w.owed.items w.remote_owed.items _ c.args.holder (turned_is c.args.self.now w.members _ _ c.self.view_is) c.self.invariant.2.ascending are p at.0 at.1
    c.members_of.result c.as_slice.result.now c.index.result.now c.as_slice.ensures row c.members_of.ensures

pub returns-in-None-clause-all : goal.returns-in-None-clause-all
returns-in-None-clause-all c =
    let w = c.self.inside in
    let away = c.in-None.ensures in
    no_local (turned c.args.self.now) w.members w.owed.items w.remote_owed.items _ c.args.holder (turned_is c.args.self.now w.members _ _ c.self.view_is) c.self.invariant.2.ascending c.self.invariant.1 away c.new.result.items c.new.ensures.items
