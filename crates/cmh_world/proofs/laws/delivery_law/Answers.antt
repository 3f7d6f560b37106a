use Rattle.cmh_frames.proofs.SomeOutcome.{some_outcome}
use Rattle.cmh_world.proofs.Delivered.{first_accepted, deliverable}
use Rattle.cmh_world.proofs.laws.delivery_law.Goals as goal

pub returns : goal.returns
returns c = record { accepted = first_accepted c.args.topology.now; deliverable = deliverable c.args.topology.now; outcome = some_outcome c.args.topology.now }
