use Rattle.std.proofs.Common.{sym, ◌∙◌}
use Rattle.cmh_bits.proofs.WordLemmas.{none_of_zeros}
use Rattle.cmh_frames.proofs.Repeats.{processes_repeat}
use Rattle.cmh_topology3.proofs.rows.repeats_process.Goals as goal

pub names_twice-requires-clause-unmarked : goal.names_twice-requires-clause-unmarked
names_twice-requires-clause-unmarked c = none_of_zeros 1024

pub returns : goal.returns
returns c = c.names_twice.ensures ∙ sym (processes_repeat c.args.rows.now)
