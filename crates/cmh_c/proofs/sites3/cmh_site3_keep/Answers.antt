use Rattle.std.proofs.Common.{sym, ◌∙◌, subst, arith, IsSome}
use Rattle.cmh_seat3.specs.Seat.{Keeps, Readies, Seat}
use Rattle.cmh_c.proofs.sites3.cmh_site3_keep.Goals as goal
use Rattle.cmh_c.proofs.sites3.cmh_site3_keep.Goals.{in-Ok, in-Err}

pub returns-clause-kept : goal.returns-clause-kept
returns-clause-kept c = λ zero. elim c.match-keep.branch [
  | in-Ok w ↦ (
    c.in-Some.ensures.taken.0,
    subst (λ (s : Seat). IsSome s.pending) (c.deref_mut.ensures.value ∙ c.in-Some.ensures.taken.1) w.in-Ok.ensures.was,
    λ before entry readied.
        subst (λ (s : Seat). Keeps before entry s) (sym c.give.ensures.seat)
        (w.in-Ok.ensures.kept before entry
        (subst (λ (s : Seat). Readies before entry s) (sym (c.deref_mut.ensures.value ∙ c.in-Some.ensures.taken.1)) readied)),
  )
  | in-Err w ↦ absurd (let code = w.code-is in omega (arith, zero, code))
]
