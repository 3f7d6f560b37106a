use Rattle.std.proofs.Common.{arith}
use Rattle.std.proofs.lemmas.Grind.{common_steps}
use Rattle.std.proofs.Math.Seq.{take-add}
use Rattle.cmh_carriers.proofs.memory.MemIncomingIncoming.read.Goals as goal

pub returns-clause-given : goal.returns-clause-given
returns-clause-given c = grind (arith, common_steps, take-add c.args.self.now.at c.min-count.result c.args.self.now.bytes.items)
