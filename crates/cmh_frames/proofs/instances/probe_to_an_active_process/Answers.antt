use Rattle.std.proofs.Common.{◌≡◌, true, false, [], ◌∷◌, refl, ap, if◌then◌else◌}
use Rattle.cmh_frames.specs.Rules.{probe_acts}
use Rattle.cmh_frames.specs.Scripts.{state_with}
use Rattle.cmh_frames.proofs.Choices.{match_false}
use Rattle.cmh_frames.proofs.Listed.{has-pairs, has_some-pairs}
use Rattle.cmh_frames.proofs.Scripts.{acts_is, acts_at_two}
use Rattle.cmh_frames.proofs.instances.probe_to_an_active_process.Goals as goal

-- 2 is active
ignored : probe_acts (state_with [] ((2, 1) ∷ []) [] []) 1 1 2 ≡ false
ignored = acts_is (state_with [] ((2, 1) ∷ []) [] []) 1 1 2 false false true (has_some-pairs [] 2) (has-pairs [] 2 1) (has-pairs ((2, 1) ∷ []) 2 1)

pub returns-clause-ignored : goal.returns-clause-ignored
returns-clause-ignored c = ignored

pub returns-clause-unchanged : goal.returns-clause-unchanged
returns-clause-unchanged c = ap (λ z. if z then state_with [] ((2, 1) ∷ []) ((2, 1) ∷ []) [] else state_with [] ((2, 1) ∷ []) [] []) ignored

pub returns-clause-silent : goal.returns-clause-silent
returns-clause-silent c = match_false _ _ _ ignored (refl, refl)

pub returns-clause-blocked : goal.returns-clause-blocked
returns-clause-blocked c = acts_at_two
