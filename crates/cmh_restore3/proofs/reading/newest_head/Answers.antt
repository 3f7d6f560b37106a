use Rattle.cmh_restore3.proofs.Fronts.{at_path}
use Rattle.cmh_restore3.proofs.reading.newest_head.Goals as goal

pub returns-in-Ok-Some-clause-named : goal.returns-in-Ok-Some-clause-named
returns-in-Ok-Some-clause-named g c = λ stored told.
    at_path stored c.args.path.now c.in-Ok-Some.head ((rw c.in-Ok-Some.field-0-is at c.in-Ok-Some.ensures.named) stored told)
