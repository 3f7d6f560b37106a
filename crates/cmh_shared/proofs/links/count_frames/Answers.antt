use Rattle.std.proofs.Common.{◌≡◌, ◌+◌, List, length, drop, ap, arith, length-append}
use Rattle.std.proofs.lemmas.List.{drop_all}
use Rattle.cmh_runs.specs.declared.entry.Entry.{Entry}
use Rattle.cmh_shared.proofs.Queuing.{sent_from, sent_of}
use Rattle.cmh_shared.proofs.links.count_frames.Goals as goal

pub loop-entry-preserved : goal.loop-entry-preserved
loop-entry-preserved g c =
    let at = c.loop-entry.entry-index in
    let e = c.entry-item.result in
    let next = sent_from c.args.entries.now at e c.loop-entry-test.true c.entry-item.is in
    omega (arith, c.loop-entry.invariant, c.in-Some.ensures.1, ap length c.as_slice.ensures, ap length next, length-append e.sent (sent_of (drop (at + 1) c.args.entries.now)))

pub returns : goal.returns
returns g c =
    let at = c.loop-entry.entry-index in
    let none : length (sent_of (drop at c.args.entries.now)) ≡ 0 = ap (λ (es : List (Entry g.row.E.Denot g.row.F.Denot)). length (sent_of es)) (drop_all at c.args.entries.now c.loop-entry-test.false) in
    omega (arith, c.loop-entry.invariant, none)
