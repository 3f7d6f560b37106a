use Rattle.std.proofs.Common.{ℕ, List, ◌+◌, take, drop, subst}
use Rattle.std.proofs.lemmas.Result.{err_from_is_err_and}
use Rattle.cmh_runs.specs.Journals.{frames_to, sendings_of}
use Rattle.cmh_model3.specs.declared.frame.Message.{Message}
use Rattle.cmh_node3.specs.Peers.{WasGivenPart}
use Rattle.cmh_node3.proofs.Giving.{entries_all, part_more}
use Rattle.cmh_node3.proofs.given.queue_entries.Goals as goal

pub returns-in_err-queue_sent-clause-part : goal.returns-in_err-queue_sent-clause-part
returns-in_err-queue_sent-clause-part c =
    let es = c.args.entries.now in
    let i = c.loop-entry.entry-index in
    let e = c.entry-item.result in
    let p = err_from_is_err_and c.from_residual.result c.from_residual.ensures.1 in
    rw p.1 (part_more c.args.out.now c.loop-entry.out c.queue_sent.new.out (sendings_of c.args.to (take i es)) (frames_to c.args.to e.sent) (sendings_of c.args.to (drop (i + 1) es))
    (sendings_of c.args.to es) c.loop-entry.invariant
    (subst (λ (l : List (ℕ × Message)). WasGivenPart (frames_to c.args.to l) c.loop-entry.out c.queue_sent.new.out) c.as_slice.ensures c.in_err-queue_sent.ensures.part)
    (entries_all c.args.to es i e c.loop-entry-test.true c.entry-item.is))
