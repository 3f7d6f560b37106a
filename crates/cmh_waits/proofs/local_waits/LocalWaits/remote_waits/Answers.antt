use Rattle.std.proofs.Common.{[], ◌∙◌, arith}
use Rattle.std.proofs.lemmas.List.{get_or_default}
use Rattle.cmh_waits.proofs.Shown.{remote_all, no_remote}
use Rattle.cmh_waits.proofs.local_waits.LocalWaits.remote_waits.Goals as goal

pub returns-in-Some-clause-all : goal.returns-in-Some-clause-all
returns-in-Some-clause-all c =
    let w = c.self.inside in
    let p = c.in-Some.place in
    let at = c.in-Some.ensures in
    let are = c.self.invariant.0 in
    let list = c.index.ensures ∙ get_or_default w.remote_waits.items p c.index.result.now [] (omega (arith, at.0, are.lists_len)) in
    remote_all c.args.self.now w.members w.waits.items w.remote_waits.items _ c.args.asker c.self.view_is c.self.invariant.2.ascending are p at.0 at.1
    c.to_vec.result c.as_slice.result.now (c.as_slice.ensures.value ∙ list) c.to_vec.ensures.items_if_clones_equal

pub returns-in-None-clause-all : goal.returns-in-None-clause-all
returns-in-None-clause-all c =
    let w = c.self.inside in
    let away = c.in-None.ensures in
    no_remote c.args.self.now w.members w.waits.items w.remote_waits.items _ c.args.asker c.self.view_is c.self.invariant.2.ascending c.self.invariant.0 away c.new.result.items c.new.ensures.items
