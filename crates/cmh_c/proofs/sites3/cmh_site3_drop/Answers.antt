use Rattle.std.proofs.Common.{sym, ◌∙◌, subst, arith, IsSome}
use Rattle.cmh_seat3.specs.Seat.{IsUnchanged, Readies, Seat}
use Rattle.cmh_c.proofs.sites3.cmh_site3_drop.Goals as goal
use Rattle.cmh_c.proofs.sites3.cmh_site3_drop.Goals.{in-Ok, in-Err}

pub returns-clause-dropped : goal.returns-clause-dropped
returns-clause-dropped c = λ zero. elim c.match-drop_prepared.branch [
  | in-Ok w ↦ (
    c.in-Some.ensures.taken.0,
    subst (λ (s : Seat). IsSome s.pending) (c.deref_mut.ensures.value ∙ c.in-Some.ensures.taken.1) w.in-Ok.ensures.was,
    λ before entry readied.
        subst (λ (s : Seat). IsUnchanged before s) (sym c.give.ensures.seat)
        (w.in-Ok.ensures.dropped before entry
        (subst (λ (s : Seat). Readies before entry s) (sym (c.deref_mut.ensures.value ∙ c.in-Some.ensures.taken.1)) readied)),
  )
  | in-Err w ↦ absurd (let code = w.code-is in omega (arith, zero, code))
]
