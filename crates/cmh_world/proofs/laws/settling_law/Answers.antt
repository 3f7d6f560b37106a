use Rattle.cmh_world.proofs.Settled.{comes_to_rest}
use Rattle.cmh_world.proofs.laws.settling_law.Goals as goal

pub returns : goal.returns
returns c = record { rest = comes_to_rest c.args.topology.now c.sites.ensures.well_formed }
