use Rattle.std.proofs.Common.{[], ◌∷◌, refl, None}
use Rattle.cmh_frames.specs.declared.frame.Frame.TheVariants.{Request}
use Rattle.cmh_frames.specs.declared.event.Event.TheVariants.{Ask, Got}
use Rattle.cmh_frames.specs.Scripts.{at_site, silent, outcome}
use Rattle.cmh_frames.proofs.examples.frames_are_sent_first.Goals as goal

pub returns-clause-no_run : goal.returns-clause-no_run
returns-clause-no_run c run =
    let begins = run.in_order (at_site 2 (silent (Got 1 (Request (1, 2)))) ∷ []) (at_site 1 (outcome (Ask 1 (2 ∷ [])) ((2, Request (1, 2)) ∷ []) None) ∷ [], refl) 1 2 in
    absurd (cc begins.1)

pub returns-clause-not_drained : goal.returns-clause-not_drained
returns-clause-not_drained c drained = absurd (cc (drained 1 2))
