use Rattle.std.proofs.Common.{◌≡◌, ◌+◌, ℕ, List, ◌++◌, length, drop, ap, sym, ◌∙◌, arith, length-append, refl}
use Rattle.std.proofs.lemmas.List.{drop_all}
use Rattle.cmh_shared.specs.Backlogs.{seen}
use Rattle.cmh_shared.specs.Links.{queued}
use Rattle.cmh_shared.proofs.Queuing.{queued_both, queued_nothing, sent_from, sent_of}
use Rattle.cmh_shared.proofs.link.Link.queue_all.Goals as goal

pub loop-entry-init : goal.loop-entry-init
loop-entry-init g c = record { all = refl; room = c.requires }

pub queue-requires : goal.queue-requires
queue-requires g c =
    let at = c.loop-entry.entry-index in
    let e = c.entry-item.result in
    let next = sent_from c.args.entries.now at e c.loop-entry-test.true c.entry-item.is in
    omega (arith, c.loop-entry.invariant.room, ap length next, ap length c.as_slice.ensures, length-append e.sent (sent_of (drop (at + 1) c.args.entries.now)))

pub loop-entry-preserved : goal.loop-entry-preserved
loop-entry-preserved g c =
    let i = c.loop-entry.invariant in
    let at = c.loop-entry.entry-index in
    let e = c.entry-item.result in
    let rest = sent_of (drop (at + 1) c.args.entries.now) in
    let next : sent_of (drop at c.args.entries.now) ≡ e.sent ++ rest = sent_from c.args.entries.now at e c.loop-entry-test.true c.entry-item.is in
    let same : c.as_slice.result.now ≡ e.sent = c.as_slice.ensures in
    record {
      all = ap (queued rest) (c.queue.ensures.backlog ∙ ap (λ (sent : List (ℕ × g.row.F.Denot)). queued sent (seen c.loop-entry.self)) same)
          ∙ sym (queued_both e.sent rest (seen c.loop-entry.self))
          ∙ ap (λ (sent : List (ℕ × g.row.F.Denot)). queued sent (seen c.loop-entry.self)) (sym next)
          ∙ i.all;
      room = c.queue.ensures.room (length rest) (omega (arith, i.room, ap length next, ap length same, length-append e.sent rest));
    }

pub returns : goal.returns
returns g c =
    let link = c.loop-entry.self in
    sym (queued_nothing (seen link))
    ∙ ap (λ (sent : List (ℕ × g.row.F.Denot)). queued sent (seen link)) (sym (ap sent_of (drop_all c.loop-entry.entry-index c.args.entries.now c.loop-entry-test.false)))
    ∙ c.loop-entry.invariant.all
