use Rattle.std.proofs.Common.{[], ◌∷◌, refl, None, arith}
use Rattle.cmh_frames.specs.declared.edition.Edition.TheVariants.{One}
use Rattle.cmh_frames.specs.declared.frame.Frame.TheVariants.{Request}
use Rattle.cmh_frames.specs.declared.event.Event.TheVariants.{Ask}
use Rattle.cmh_frames.specs.Relation.{with_pair, without_pair}
use Rattle.cmh_frames.specs.Scripts.{two_sites, at_site, outcome, asked_and_answered}
use Rattle.cmh_frames.proofs.Listed.{pairs}
use Rattle.cmh_frames.proofs.LongerRuns.{run_more}
use Rattle.cmh_frames.proofs.Pairs.{has-with_same, has_some-from}
use Rattle.cmh_frames.proofs.Scripts.{answered_run, no_more_waits, one_target, two_not_one}
use Rattle.cmh_frames.proofs.instances.ask_reply_and_ask.Goals as goal

pub returns-clause-run : goal.returns-clause-run
returns-clause-run c =
    run_more (two_sites One) asked_and_answered (at_site 1 (outcome (Ask 1 (2 ∷ [])) ((2, Request (1, 2)) ∷ []) None)) answered_run
    (refl, no_more_waits 1 2, one_target (two_sites One) 1 2 refl two_not_one (omega arith)) (refl, refl) tt

pub returns-clause-blocked : goal.returns-clause-blocked
returns-clause-blocked c =
    has_some-from (with_pair (without_pair (pairs ((1, 2) ∷ [])) 1 2) 1 2) 1 2 (has-with_same (without_pair (pairs ((1, 2) ∷ [])) 1 2) 1 2)
