use Rattle.std.proofs.Common.{[], ◌∷◌, refl, arith}
use Rattle.cmh_frames.specs.declared.edition.Edition.TheVariants.{One}
use Rattle.cmh_frames.specs.declared.event.Event.TheVariants.{Ask, Reply}
use Rattle.cmh_frames.specs.Rules.{AreTargets}
use Rattle.cmh_frames.specs.Scripts.{one_site, silent, at_site}
use Rattle.cmh_frames.proofs.LongerRuns.{run_first, run_more}
use Rattle.cmh_frames.proofs.Listed.{pairs, has-pairs, has_some-pairs}
use Rattle.cmh_frames.proofs.Pairs.{has-without_same}
use Rattle.cmh_frames.proofs.examples.reply_ends_a_wait.Goals as goal

-- 1 may ask 2
target : AreTargets (one_site One) 1 (2 ∷ [])
target = record { some = omega arith; within = omega arith; ascending = (tt, tt); known = ((refl, λ e. omega (arith, e)), tt) }

pub returns-clause-run : goal.returns-clause-run
returns-clause-run c =
    let asked = run_more (one_site One) [] (at_site 1 (silent (Ask 1 (2 ∷ [])))) (run_first (one_site One)) (refl, has_some-pairs [] 1, target) (refl, refl) tt in
    run_more (one_site One) _ (at_site 1 (silent (Reply 2 1))) asked (refl, has_some-pairs ((1, 2) ∷ []) 2, has-pairs ((2, 1) ∷ []) 2 1, refl) (refl, refl) tt

pub returns-clause-not_owed : goal.returns-clause-not_owed
returns-clause-not_owed c = has-without_same (pairs ((2, 1) ∷ [])) 2 1
