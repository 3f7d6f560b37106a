use Rattle.cmh_controller.proofs.Wants.{memory_alone, wants_memory}
use Rattle.cmh_controller.proofs.laws.memory_law.Goals as goal

pub returns-clause-accepted : goal.returns-clause-accepted
returns-clause-accepted c = wants_memory

pub returns-clause-alone : goal.returns-clause-alone
returns-clause-alone c = memory_alone
