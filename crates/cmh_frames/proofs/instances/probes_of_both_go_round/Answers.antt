use Rattle.std.proofs.Common.{◌≡◌, true, false, [], ◌∷◌, if◌then◌else◌, refl, sym, ap, ◌∙◌, inl, inr, None, Some, take, drop, arith}
use Rattle.cmh_frames.specs.declared.edition.Edition.TheVariants.{Two}
use Rattle.cmh_frames.specs.declared.frame.Frame.TheVariants.{Request, Probe}
use Rattle.cmh_frames.specs.declared.event.Event.TheVariants.{Ask, Got}
use Rattle.cmh_frames.specs.Rules.{probe_acts}
use Rattle.cmh_frames.proofs.Words.{newly}
use Rattle.cmh_frames.specs.Runs.{IsRun, state_of}
use Rattle.cmh_frames.specs.Scripts.{two_sites, silent, outcome, at_site, state_with, probes_cross}
use Rattle.cmh_frames.proofs.Choices.{match_true}
use Rattle.cmh_frames.proofs.Listed.{has-pairs, has_some-pairs}
use Rattle.cmh_frames.proofs.LongerRuns.{run_first, run_more}
use Rattle.cmh_frames.proofs.Scripts.{acts_is, acts_at_two, one_target, one_not_two, two_not_one, newly_first, not_on_itself, one_probe, reaches_itself, request_then_probe}
use Rattle.cmh_frames.proofs.instances.probes_of_both_go_round.Goals as goal

-- both ask, and both requests come
asked : IsRun (two_sites Two) (take 4 probes_cross)
asked =
    let first = run_more (two_sites Two) [] (at_site 1 (outcome (Ask 1 (2 ∷ [])) ((2, Request (1, 2)) ∷ (2, Probe (1, 1, 2)) ∷ []) None)) (run_first (two_sites Two))
    (refl, has_some-pairs [] 1, one_target (two_sites Two) 1 2 refl two_not_one (omega arith)) request_then_probe tt in
    let second = run_more (two_sites Two) _ (at_site 2 (outcome (Ask 2 (1 ∷ [])) ((1, Request (2, 1)) ∷ (1, Probe (2, 2, 1)) ∷ []) None)) first
    (refl, has_some-pairs [] 2, one_target (two_sites Two) 2 1 refl one_not_two (omega arith))
    ((1, Probe (2, 2, 1)) ∷ [], refl, inr (not_on_itself (two_sites Two) 2 1 2 1 refl refl one_not_two, one_probe (two_sites Two) 2 1 2 1 refl refl one_not_two 2, refl))
    tt in
    let third = run_more (two_sites Two) _ (at_site 2 (silent (Got 1 (Request (1, 2))))) second (one_not_two, refl, refl, has-pairs [] 2 1) (refl, refl) (Probe (1, 1, 2) ∷ [], refl) in
    run_more (two_sites Two) _ (at_site 1 (silent (Got 2 (Request (2, 1))))) third (two_not_one, refl, refl, has-pairs [] 1 2) (refl, refl) (Probe (2, 2, 1) ∷ [], refl)

-- the probe of 2 acts at 1
second_acts : probe_acts (state_with ((1, 2) ∷ []) ((1, 2) ∷ []) [] []) 2 2 1 ≡ true
second_acts = acts_is (state_with ((1, 2) ∷ []) ((1, 2) ∷ []) [] []) 2 2 1 true false true (has_some-pairs ((1, 2) ∷ []) 1) (has-pairs [] 1 2) (has-pairs ((1, 2) ∷ []) 1 2)

-- both first probes come and go on
passed : IsRun (two_sites Two) (take 6 probes_cross)
passed =
    let first = run_more (two_sites Two) (take 4 probes_cross) (at_site 2 (outcome (Got 1 (Probe (1, 1, 2))) ((1, Probe (1, 2, 1)) ∷ []) None)) asked
    (one_not_two, refl, refl, refl)
    (match_true _ _ _ acts_at_two (inr ((λ h. two_not_one (reaches_itself (two_sites Two) 2 1 2 1 refl refl one_not_two 1 h)), one_probe (two_sites Two) 2 1 2 1 refl refl one_not_two 1, refl)))
    ([], refl) in
    run_more (two_sites Two) _ (at_site 1 (outcome (Got 2 (Probe (2, 2, 1))) ((2, Probe (2, 1, 2)) ∷ []) None)) first
    (two_not_one, refl, refl, refl)
    (match_true _ _ _ second_acts (inr ((λ h. one_not_two (reaches_itself (two_sites Two) 1 2 1 2 refl refl two_not_one 2 h)), one_probe (two_sites Two) 1 2 1 2 refl refl two_not_one 2, refl)))
    (Probe (1, 2, 1) ∷ [], refl)

-- each has left its mark
first_site : state_of (two_sites Two) 1 (take 6 probes_cross) ≡ state_with ((1, 2) ∷ []) ((1, 2) ∷ []) ((1, 2) ∷ []) []
first_site = ap (λ z. if z then state_with ((1, 2) ∷ []) ((1, 2) ∷ []) ((1, 2) ∷ []) [] else state_with ((1, 2) ∷ []) ((1, 2) ∷ []) [] []) second_acts

second_site : state_of (two_sites Two) 2 (take 6 probes_cross) ≡ state_with ((2, 1) ∷ []) ((2, 1) ∷ []) ((2, 1) ∷ []) []
second_site = ap (λ z. if z then state_with ((2, 1) ∷ []) ((2, 1) ∷ []) ((2, 1) ∷ []) [] else state_with ((2, 1) ∷ []) ((2, 1) ∷ []) [] []) acts_at_two

-- and each comes back and acts
back_at_one : probe_acts (state_of (two_sites Two) 1 (take 6 probes_cross)) 1 2 1 ≡ true
back_at_one =
    ap (λ v. probe_acts v 1 2 1) first_site
    ∙ acts_is (state_with ((1, 2) ∷ []) ((1, 2) ∷ []) ((1, 2) ∷ []) []) 1 2 1 true false true (has_some-pairs ((1, 2) ∷ []) 1) (has-pairs ((1, 2) ∷ []) 1 1) (has-pairs ((1, 2) ∷ []) 1 2)

back_at_two : probe_acts (state_of (two_sites Two) 2 (take 6 probes_cross)) 2 1 2 ≡ true
back_at_two =
    ap (λ v. probe_acts v 2 1 2) second_site
    ∙ acts_is (state_with ((2, 1) ∷ []) ((2, 1) ∷ []) ((2, 1) ∷ []) []) 2 1 2 true false true (has_some-pairs ((2, 1) ∷ []) 2) (has-pairs ((2, 1) ∷ []) 2 2) (has-pairs ((2, 1) ∷ []) 2 1)

pub returns-clause-run : goal.returns-clause-run
returns-clause-run c =
    let first = run_more (two_sites Two) (take 6 probes_cross) (at_site 1 (outcome (Got 2 (Probe (1, 2, 1))) [] (Some 1))) passed
    (two_not_one, refl, refl, refl)
    (match_true _ _ _ back_at_one (inl ((refl, ([], refl)), refl, newly_first 1 ∙ ap (λ v. newly v 1) (sym first_site))))
    ([], refl) in
    run_more (two_sites Two) _ (at_site 2 (outcome (Got 1 (Probe (2, 1, 2))) [] (Some 2))) first
    (one_not_two, refl, refl, refl)
    (match_true _ _ _ back_at_two (inl ((refl, ([], refl)), refl, newly_first 2 ∙ ap (λ v. newly v 2) (sym second_site))))
    ([], refl)

pub returns-clause-last : goal.returns-clause-last
returns-clause-last c = record {
  member = refl;
  before = take 1 probes_cross;
  ask = at_site 2 (outcome (Ask 2 (1 ∷ [])) ((1, Request (2, 1)) ∷ (1, Probe (2, 2, 1)) ∷ []) None);
  later = drop 2 probes_cross;
  whole = refl;
  asks = refl;
  none_later = (refl, (refl, (refl, (refl, (refl, (refl, tt))))));
}
