use Rattle.std.proofs.Common.{ℕ, sym, subst}
use Rattle.cmh_c.specs.Opening3.{IsNotOpened}
use Rattle.cmh_c.proofs.sites3.cmh_site3_new.Goals as goal

pub returns-in-Err-clause-code : goal.returns-in-Err-clause-code
returns-in-Err-clause-code c = λ positive closed.
    subst (λ (code : ℕ). IsNotOpened code c.args.world.now c.args.rows.now c.args.number) (sym c.code.ensures.value) c.in-Err.ensures.fault
