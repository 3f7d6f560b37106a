use Rattle.std.proofs.Common.{ℕ, sym, subst}
use Rattle.cmh_console.specs.TopologyFile.{Says}
use Rattle.cmh_c.specs.Opening.{IsNotOpened}
use Rattle.cmh_c.proofs.sites.cmh_site_new_json.Goals as goal

pub returns-in-Err-clause-code : goal.returns-in-Err-clause-code
returns-in-Err-clause-code c = λ positive closed.
    subst (λ (code : ℕ). IsNotOpened code c.args.number (Says c.args.json.now)) (sym c.code.ensures.value) c.in-Err.ensures.fault
