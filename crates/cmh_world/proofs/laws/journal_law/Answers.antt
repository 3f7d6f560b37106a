use Rattle.cmh_frames.proofs.Lawful.{lawful_states}
use Rattle.cmh_world.proofs.Declared.{declared_by_entries}
use Rattle.cmh_world.proofs.laws.journal_law.Goals as goal

pub returns : goal.returns
returns c = record { states = lawful_states c.args.topology.now; declared = declared_by_entries c.args.topology.now }
