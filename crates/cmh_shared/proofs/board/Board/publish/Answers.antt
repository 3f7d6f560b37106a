use Rattle.std.proofs.Common.{sym, ◌∙◌}
use Rattle.cmh_shared.proofs.Keeping.{unstuck_all, published}
use Rattle.cmh_shared.proofs.board.Board.publish.Goals as goal

pub publish_in-requires : goal.publish_in-requires
publish_in-requires g c =
    let k = unstuck_all _ _ _ _ _ _ _ _ c.self.invariant.1 in
    rw (c.in-Ok.ensures.desk, c.in-Ok.ensures.ok.1) (record { book = k.final_book ∙ sym k.book; own = k.final_own })

pub invariant_of-self-2 : goal.invariant_of-self-2
invariant_of-self-2 g c =
    let k = unstuck_all _ _ _ _ _ _ _ _ c.self.invariant.1 in
    let e = rw (c.in-Ok.ensures.desk, c.in-Ok.ensures.ok.1) at c.publish_in.ensures.shown in
    (c.self.invariant.0, rw (c.in-Ok.ensures.ok.0, c.publish_in.ensures.pending) (published _ _ _ _ _ _ _ _ _ _ k e k.list c.publish_in.ensures.seat))
