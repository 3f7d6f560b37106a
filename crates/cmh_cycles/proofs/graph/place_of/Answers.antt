use Rattle.cmh_cycles.proofs.GraphLemmas.{not_found}
use Rattle.cmh_cycles.proofs.graph.place_of.Goals as goal

pub returns-in-Err : goal.returns-in-Err
returns-in-Err c = not_found c.args.processes.now c.args.process c.in-Err.field-0 c.requires c.in-Err.ensures.position
