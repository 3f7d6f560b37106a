use Rattle.std.proofs.Common.{List, ◌+◌, ◌∷◌, [], take, drop, sym, ap, ◌∙◌}
use Rattle.std.proofs.lemmas.Result.{err_from_is_err_and}
use Rattle.cmh_runs.specs.Journals.{frames_to}
use Rattle.cmh_model3.specs.declared.frame.Message.{Message}
use Rattle.cmh_node3.specs.Peers.{with_all}
use Rattle.cmh_node3.proofs.Giving.{frame_away, frame_here, frames_all, given_more, part_none}
use Rattle.cmh_node3.proofs.given.queue_sent.Goals as goal
use Rattle.cmh_node3.proofs.given.queue_sent.Goals.{then-eq+in_ok-queue, else-eq}

pub returns-in_err-queue-clause-part : goal.returns-in_err-queue-clause-part
returns-in_err-queue-clause-part c =
    let sent = c.args.sent.now in
    let i = c.loop-site.site-index in
    let p = err_from_is_err_and c.from_residual.result c.from_residual.ensures.1 in
    rw p.1 (part_none c.args.out.now (frames_to c.args.to (take i sent)) (frames_to c.args.to sent) (frames_to c.args.to (drop i sent)) (frames_all c.args.to sent i)
    c.loop-site.out c.queue.new.self c.loop-site.invariant c.in_err-queue.ensures.err)

pub loop-site-preserved : goal.loop-site-preserved
loop-site-preserved c =
    let sent = c.args.sent.now in
    let i = c.loop-site.site-index in
    let x = c.loop-site-item.result in
    elim c.if-eq.branch [
      | then-eq+in_ok-queue w ↦
          w.out-is ∙ given_more c.args.out.now c.loop-site.out w.queue.new.self (frames_to c.args.to (take i sent)) (x.1 ∷ []) (frames_to c.args.to (take (i + 1) sent))
          c.loop-site.invariant w.in_ok-queue.ensures.ok (frame_here c.args.to sent i x c.loop-site-test.true c.loop-site-item.is (sym c.eq.ensures ∙ w.if-eq.true))
      | else-eq w ↦
          w.out-is ∙ c.loop-site.invariant
          ∙ ap (λ (l : List Message). with_all l c.args.out.now) (sym (frame_away c.args.to sent i x c.loop-site-test.true c.loop-site-item.is (sym c.eq.ensures ∙ w.if-eq.false)))
    ]
