use Rattle.cmh_world.proofs.Settled.{comes_to_rest, each_deadlock_found, rest_tells}
use Rattle.cmh_world.proofs.laws.deadlock_is_found_law.Goals as goal

pub returns-clause-settles : goal.returns-clause-settles
returns-clause-settles c = comes_to_rest c.args.topology.now c.sites.ensures.well_formed

pub returns-clause-found : goal.returns-clause-found
returns-clause-found c = each_deadlock_found c.args.topology.now c.requires.second_edition

pub returns-clause-tells : goal.returns-clause-tells
returns-clause-tells c = rest_tells c.args.topology.now c.requires.second_edition
