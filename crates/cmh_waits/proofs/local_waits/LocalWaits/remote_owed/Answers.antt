use Rattle.std.proofs.Common.{[], ◌∙◌, arith}
use Rattle.std.proofs.lemmas.List.{get_or_default}
use Rattle.cmh_waits.proofs.Shown.{no_remote, plainly, remote_all, turned, turned_is}
use Rattle.cmh_waits.proofs.local_waits.LocalWaits.remote_owed.Goals as goal

pub returns-in-Some-clause-all : goal.returns-in-Some-clause-all
returns-in-Some-clause-all c =
    let w = c.self.inside in
    let p = c.in-Some.place in
    let at = c.in-Some.ensures in
    let are = c.self.invariant.1 in
    let list = c.index.ensures ∙ get_or_default w.remote_owed.items p c.index.result.now [] (omega (arith, at.0, are.lists_len)) in
    remote_all (turned c.args.self.now) w.members w.owed.items w.remote_owed.items _ c.args.holder (turned_is c.args.self.now w.members _ _ c.self.view_is) c.self.invariant.2.ascending are p at.0 at.1
    c.to_vec.result c.index.result.now list (plainly c.to_vec.result c.index.result.now c.to_vec.ensures.value)

pub returns-in-None-clause-all : goal.returns-in-None-clause-all
returns-in-None-clause-all c =
    let w = c.self.inside in
    let away = c.in-None.ensures in
    no_remote (turned c.args.self.now) w.members w.owed.items w.remote_owed.items _ c.args.holder (turned_is c.args.self.now w.members _ _ c.self.view_is) c.self.invariant.2.ascending c.self.invariant.1 away c.new.result.items c.new.ensures.items
