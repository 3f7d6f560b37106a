use Rattle.std.proofs.Common.{[], sym, refl, ◌∙◌, true≢false, arith}
use Rattle.std.specs.FinSet as set
use Rattle.cmh_frames.proofs.Listed.{has-pairs}
use Rattle.cmh_frames.proofs.Pairs.{has-with_same}
use Rattle.cmh_frames.proofs.examples.frames_that_do_not_fit.Goals as goal

pub returns-clause-reply_to_nobody : goal.returns-clause-reply_to_nobody
returns-clause-reply_to_nobody c accepted = true≢false (sym accepted.3 ∙ has-pairs [] 2 1)

pub returns-clause-request : goal.returns-clause-request
returns-clause-request c = (λ e. omega (arith, e), refl, refl, has-pairs [] 2 1)

pub returns-clause-request_again : goal.returns-clause-request_again
returns-clause-request_again c accepted = true≢false (sym (has-with_same set.empty 2 1) ∙ accepted.3)
