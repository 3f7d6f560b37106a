use Rattle.cmh_run_site.proofs.Endings.{on_err, wrote_nothing}
use Rattle.cmh_run_site.proofs.site.run_site_noting.Goals as goal

pub returns-in_err-noting-clause-early : goal.returns-in_err-noting-clause-early
returns-in_err-noting-clause-early g c = on_err c.from_residual.result _ (wrote_nothing _ _ _ _ _)
