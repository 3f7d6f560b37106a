use Rattle.std.proofs.Common.{refl, inl, inr}
use Rattle.cmh_links3.proofs.outgoing.Outgoing.turn.Goals as goal

pub returns-in-Close-pass-clause-turns : goal.returns-in-Close-pass-clause-turns
returns-in-Close-pass-clause-turns g c =
    let s = c.listen.new.self in
    let n = c.listen.new.node in
    let heard = c.in-Open.ensures.listens in
    let passed = c.in-Close-pass.ensures.passes in
    inl (record { c = s; o = n; listens = heard; speaks = inr (record { passes = passed; closes = refl }) })

pub returns-clause-turns : goal.returns-clause-turns
returns-clause-turns g c =
    let s = c.listen.new.self in
    let n = c.listen.new.node in
    let t = c.pass.new.self in
    let k = c.pass.new.node in
    let heard = c.in-Open.ensures.listens in
    let passed = c.in-Open-pass.ensures.passes in
    let written = c.queue_messages.ensures.writes in
    inl (record { c = s; o = n; listens = heard; speaks = inl (record { c = t; o = k; passes = passed; writes = written }) })
