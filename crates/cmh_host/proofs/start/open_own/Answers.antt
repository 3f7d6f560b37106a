use Rattle.cmh_host.proofs.StartFaults.{file_err}
use Rattle.cmh_host.proofs.start.open_own.Goals as goal

pub returns-in_err-journal-clause-fault : goal.returns-in_err-journal-clause-fault
returns-in_err-journal-clause-fault g c =
    file_err c.from_residual.result c.in_err-journal.field-0.0 c.from_residual.ensures.1

pub returns-in_err-opened-clause-fault : goal.returns-in_err-opened-clause-fault
returns-in_err-opened-clause-fault g c =
    file_err c.from_residual-in_err-opened.result c.in_err-opened.field-0.0 c.from_residual-in_err-opened.ensures.1
