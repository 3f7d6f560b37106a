use Rattle.std.proofs.Common.{ℕ, sym, ◌∙◌, subst, arith}
use Rattle.cmh_seat3.specs.Seat.{Readies, Seat, Wrote}
use Rattle.cmh_c.proofs.sites3.cmh_site3_prepare.Goals as goal
use Rattle.cmh_c.proofs.sites3.cmh_site3_prepare.Goals.{in-Ok, in-Err}

pub returns-clause-readied : goal.returns-clause-readied
returns-clause-readied c = λ zero. elim c.match-prepare.branch [
  | in-Ok w ↦ (
    c.in-Some.ensures.taken.0,
    subst (λ (n : ℕ). Wrote c.args.site.now.held.seat c.args.event.now c.args.out.now c.prepare.new.out n
        (λ entry. Readies c.args.site.now.held.seat entry c.give.new.self.held.seat)) (sym w.count-is)
        (subst (λ (s : Seat). Wrote c.args.site.now.held.seat c.args.event.now c.args.out.now c.prepare.new.out w.in-Ok.written
        (λ entry. Readies c.args.site.now.held.seat entry s)) (sym c.give.ensures.seat)
        (subst (λ (s : Seat). Wrote s c.args.event.now c.args.out.now c.prepare.new.out w.in-Ok.written
        (λ entry. Readies s entry c.prepare.new.self)) (c.deref_mut.ensures.value ∙ c.in-Some.ensures.taken.1) w.in-Ok.ensures.readied)),
  )
  | in-Err w ↦ absurd (let code = w.code-is in let positive = w.code_and_need-code.ensures.positive in omega (arith, zero, code, positive))
]
