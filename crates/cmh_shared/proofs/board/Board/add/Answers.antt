use Rattle.std.proofs.Common.{◌<◌, length, sym, ◌∙◌, ap, arith, refl}
use Rattle.cmh_shared.specs.History.{head_of}
use Rattle.cmh_shared.specs.declared.published.Add.{Add}
use Rattle.cmh_shared.specs.Boards.{Listed}
use Rattle.cmh_shared.proofs.Keeping.{unstuck_all, longer, one_more}
use Rattle.cmh_shared.proofs.board.Board.add.Goals as goal

pub invariant_of-self-then-self : goal.invariant_of-self-then-self
invariant_of-self-then-self c =
    (c.self.invariant.0, rw (c.in-Ok.ensures.desk, c.in-Ok.ensures.ok.1, c.in-Ok.ensures.ok.0) (unstuck_all _ _ _ _ _ _ _ _ c.self.invariant.1))

pub invariant_of-self-in-Err-grow : goal.invariant_of-self-in-Err-grow
invariant_of-self-in-Err-grow c =
    let k = unstuck_all _ _ _ _ _ _ _ _ c.self.invariant.1 in
    let b = c.in-Err-grow.ensures.book in (
      c.self.invariant.0 ∙ ap head_of (sym b),
      rw (b, c.in-Ok.ensures.desk, c.in-Ok.ensures.ok.1, c.in-Ok.ensures.ok.0) (longer _ c.self.inside.seen.log c.grow.new.seen.log _ c.in-Err-grow.found _ _ _ _ _ k c.in-Err-grow.ensures.grows c.in-Err-grow.ensures.added),
    )

pub invariant_of-self-2 : goal.invariant_of-self-2
invariant_of-self-2 c =
    let k = unstuck_all _ _ _ _ _ _ _ _ c.self.invariant.1 in
    let b = c.in-Ok-grow.ensures.book in
    let o : Add = record { process = c.args.process; seen = c.grow.new.seen } in
    let long = c.self.invariant.1.list_length in
    let seen = ap (λ (l : Listed). length l.list) c.self.view_is in
    let few : c.self.inside.count < 64 = omega (arith, long, seen, c.requires) in (
      c.self.invariant.0 ∙ ap head_of (sym b),
      rw (c.again.ensures, c.in-Ok.ensures.desk, c.in-Ok.ensures.ok.1) (one_more c.grow.new.seen.book c.self.inside.seen.log _ _ _ _ o _ (rw b k) c.if-self.false few refl c.in-Ok-grow.ensures.added),
    )
