use Rattle.cmh_inputs.proofs.TwoReads.{two_reads_are_enough}
use Rattle.cmh_inputs.proofs.two_reads.two_reads_law.Goals as goal

pub returns : goal.returns
returns c = record { enough = two_reads_are_enough c.args.topology.now }
