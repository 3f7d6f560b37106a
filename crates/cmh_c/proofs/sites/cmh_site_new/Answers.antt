use Rattle.std.proofs.Common.{ℕ, sym, subst}
use Rattle.cmh_c.specs.Codes.{NoEditionOr}
use Rattle.cmh_c.specs.Opening.{IsNotOpened, SaysWords}
use Rattle.cmh_c.proofs.sites.cmh_site_new.Goals as goal

pub returns-in-Err-clause-code : goal.returns-in-Err-clause-code
returns-in-Err-clause-code c = λ positive closed.
    subst (λ (code : ℕ). NoEditionOr code c.args.edition (λ edition. IsNotOpened code c.args.number (SaysWords c.args.edition c.args.rows.now)))
    (sym c.code.ensures.value) c.in-Err.ensures.fault
