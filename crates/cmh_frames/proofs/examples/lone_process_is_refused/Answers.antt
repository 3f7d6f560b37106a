use Rattle.std.proofs.Common.{[], sym, ◌∙◌, true≢false}
use Rattle.cmh_frames.proofs.Listed.{has-pairs, has_some-pairs}
use Rattle.cmh_frames.proofs.examples.lone_process_is_refused.Goals as goal

pub returns-clause-not_blocked : goal.returns-clause-not_blocked
returns-clause-not_blocked c accepted = true≢false (sym accepted.1 ∙ has_some-pairs [] 1)

pub returns-clause-not_owed : goal.returns-clause-not_owed
returns-clause-not_owed c accepted = true≢false (sym accepted.2 ∙ has-pairs [] 1 1)
