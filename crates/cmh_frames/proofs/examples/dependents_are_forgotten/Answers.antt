use Rattle.cmh_frames.proofs.Scripts.{is_marked, is_forgotten}
use Rattle.cmh_frames.proofs.examples.dependents_are_forgotten.Goals as goal

pub returns-clause-marked : goal.returns-clause-marked
returns-clause-marked c = is_marked

pub returns-clause-forgotten : goal.returns-clause-forgotten
returns-clause-forgotten c = is_forgotten
