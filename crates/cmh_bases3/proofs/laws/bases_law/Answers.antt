use Rattle.cmh_bases3.proofs.Following.{bases_are_states, bases_follow, nothing_is, states_have_bases}
use Rattle.cmh_bases3.proofs.laws.bases_law.Goals as goal

pub returns-clause-are_states : goal.returns-clause-are_states
returns-clause-are_states c = bases_are_states c.args.topology.now

pub returns-clause-of_states : goal.returns-clause-of_states
returns-clause-of_states c = states_have_bases c.args.topology.now

pub returns-clause-nothing : goal.returns-clause-nothing
returns-clause-nothing c = nothing_is c.args.topology.now

pub returns-clause-follow : goal.returns-clause-follow
returns-clause-follow c = bases_follow c.args.topology.now c.sites.ensures.well_formed
