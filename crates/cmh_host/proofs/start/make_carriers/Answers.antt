use Rattle.cmh_host.proofs.StartFaults.{memory_err, start_err}
use Rattle.cmh_host.proofs.start.make_carriers.Goals as goal

pub returns-in_err-speakers-clause-fault : goal.returns-in_err-speakers-clause-fault
returns-in_err-speakers-clause-fault g c =
    memory_err c.from_residual.result c.from_residual.ensures.1

pub returns-in_err-pairs-clause-fault : goal.returns-in_err-pairs-clause-fault
returns-in_err-pairs-clause-fault g c =
    memory_err c.from_residual-in_err-pairs.result c.from_residual-in_err-pairs.ensures.1

pub returns-in_err-listen-clause-fault : goal.returns-in_err-listen-clause-fault
returns-in_err-listen-clause-fault g c =
    start_err c.from_residual-in_err-listen.result c.in_err-listen.field-0.0 c.from_residual-in_err-listen.ensures.1
    c.in_err-listen.ensures.fault
