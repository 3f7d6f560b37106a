use Rattle.cmh_host.proofs.StartFaults.{open_err, start_err}
use Rattle.cmh_host.proofs.start.start_site.Goals as goal

pub returns-in_err-carriers-clause-fault : goal.returns-in_err-carriers-clause-fault
returns-in_err-carriers-clause-fault g c =
    start_err c.from_residual.result c.in_err-carriers.field-0.0 c.from_residual.ensures.1 c.in_err-carriers.ensures.fault

pub returns-in_err-opened-clause-fault : goal.returns-in_err-opened-clause-fault
returns-in_err-opened-clause-fault g c =
    open_err c.from_residual-in_err-opened.result c.in_err-opened.field-0.0 c.from_residual-in_err-opened.ensures.1 c.in_err-opened.ensures.fault
