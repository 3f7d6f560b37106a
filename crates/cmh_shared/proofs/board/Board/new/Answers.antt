use Rattle.std.proofs.Common.{ap, ◌∙◌, drop}
use Rattle.cmh_shared.specs.Rule.{named}
use Rattle.cmh_shared.proofs.Keeping.{fresh, opened}
use Rattle.cmh_shared.proofs.board.Board.new.Goals as goal

pub invariant_of-board : goal.invariant_of-board
invariant_of-board g c =
    let made = c.in_ok-writer.ensures in
    let published = c.publish_all-writer.ensures in
    let kept = c.in-Ok.ensures in
    let seen = c.begin-head.result.1 in
    let w = c.publish_all-writer.result in
    let first = opened seen c.in_ok-writer.writer.desk.shown.value w.desk.shown.value _ made.list made.seen made.pending published.shown in
    let no_log = c.begin-head.ensures.empty in
    let no_ops = ap (λ l. drop w.behind l.items) kept.log.0 in
    let board = fresh seen.book seen.log w.desk.shown.value (drop w.behind w.log.items) _ no_log published.pending first.0 (ap (λ s. s.book) first.1) (ap (λ s. s.log) first.1 ∙ no_log) (published.seat ∙ ap (λ s. named s.book) first.1) in
    (c.begin-head.ensures.head, rw (kept.shown, kept.log.0, kept.log.1, kept.seat) board)
