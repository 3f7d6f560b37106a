use Rattle.std.proofs.Common.{ℕ, sym, subst}
use Rattle.cmh_c.specs.Inner.Faults.{place_told}
use Rattle.cmh_c.specs.Opening3.{IsNotReopened}
use Rattle.cmh_c.proofs.sites3.cmh_site3_open.Goals as goal

pub returns-in-Err-clause-code : goal.returns-in-Err-clause-code
returns-in-Err-clause-code c = λ positive closed. (
  place_told c.in-Err.fault,
  subst (λ (code : ℕ). IsNotReopened code (place_told c.in-Err.fault) c.args.world.now c.args.rows.now c.args.number c.args.journal.now) (sym c.code_and_place.ensures.value)
      c.in-Err.ensures.fault,
  c.code_and_place.ensures.place,
)
