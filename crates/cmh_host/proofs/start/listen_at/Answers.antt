use Rattle.cmh_host.proofs.StartFaults.{memory_err}
use Rattle.cmh_host.proofs.start.listen_at.Goals as goal

pub returns-in_err-can_be_made-clause-fault : goal.returns-in_err-can_be_made-clause-fault
returns-in_err-can_be_made-clause-fault g c =
    memory_err c.from_residual.result c.from_residual.ensures.1
