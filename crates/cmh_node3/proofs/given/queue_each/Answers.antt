use Rattle.std.proofs.Common.{arith, subst, sym}
use Rattle.std.specs.Prelude.{slice_set}
use Rattle.std.proofs.lemmas.Result.{err_from_is_err_and}
use Rattle.cmh_runs.specs.Journals.{sendings_of}
use Rattle.cmh_node3.specs.Peers.{AtEach, IsGivenPart, WasGivenPart}
use Rattle.cmh_node3.specs.declared.peer.Peer.{Peer}
use Rattle.cmh_node3.proofs.Giving.{part_at_each}
use Rattle.cmh_node3.proofs.given.queue_each.Goals as goal

pub returns-in_err-queue_entries-clause-part : goal.returns-in_err-queue_entries-clause-part
returns-in_err-queue_entries-clause-part c =
    let p = err_from_is_err_and c.from_residual.result c.from_residual.ensures.1 in
    let x = c.peer-item.result in
    let now = c.loop-peer.peers in
    let k = c.loop-peer.peer-index in
    rw p.1 (subst (λ (q : Peer). AtEach (IsGivenPart c.args.entries.now) c.args.peers.now (slice_set now k (record q { out = c.queue_entries.new.out }))) c.peer-item.is
    (part_at_each c.args.entries.now c.args.peers.now now k x c.queue_entries.new.out (omega arith) (omega arith) c.peer-item.is
    c.loop-peer.invariant.done c.loop-peer.invariant.rest
    (subst (λ (q : Peer). WasGivenPart (sendings_of q.site c.args.entries.now) q.out c.queue_entries.new.out) (sym c.peer-item.is) c.in_err-queue_entries.ensures.part)))
