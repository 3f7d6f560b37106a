use Rattle.std.proofs.Common.{◌≡◌, true, not, ◌&&◌, [], ◌∷◌, ◌∙◌, arith}
use Rattle.cmh_frames.specs.Relation.{has_some, without_pair}
use Rattle.cmh_frames.proofs.Listed.{pairs, has-pairs, has_some-pairs}
use Rattle.cmh_frames.proofs.Pairs.{has-only, has-without_other, has_some-from}
use Rattle.cmh_frames.proofs.examples.dependents_are_kept.Goals as goal

-- 2 waits for 3 still
waits_for_three : has_some (without_pair (pairs ((2, 3) ∷ (5, 6) ∷ [])) 5 6) 2 ≡ true
waits_for_three = has_some-from (without_pair (pairs ((2, 3) ∷ (5, 6) ∷ [])) 5 6) 2 3 (has-without_other (pairs ((2, 3) ∷ (5, 6) ∷ [])) 5 6 2 3 (λ same. omega (arith, same.0)) ∙ has-pairs ((2, 3) ∷ (5, 6) ∷ []) 2 3)

-- and for 4
waits_for_four : has_some (without_pair (pairs ((2, 3) ∷ (2, 4) ∷ [])) 2 3) 2 ≡ true
waits_for_four = has_some-from (without_pair (pairs ((2, 3) ∷ (2, 4) ∷ [])) 2 3) 2 4 (has-without_other (pairs ((2, 3) ∷ (2, 4) ∷ [])) 2 3 2 4 (λ same. omega (arith, same.1)) ∙ has-pairs ((2, 3) ∷ (2, 4) ∷ []) 2 4)

pub returns-clause-of_another : goal.returns-clause-of_another
returns-clause-of_another c =
    has-only (pairs ((2, 1) ∷ [])) (λ k. not (has_some (pairs ((2, 3) ∷ (5, 6) ∷ [])) k && not (has_some (without_pair (pairs ((2, 3) ∷ (5, 6) ∷ [])) 5 6) k))) 2 1
    ∙ (λ n. has-pairs ((2, 1) ∷ []) 2 1 n && not (has_some-pairs ((2, 3) ∷ (5, 6) ∷ []) 2 n && not (waits_for_three n)))

pub returns-clause-still_blocked : goal.returns-clause-still_blocked
returns-clause-still_blocked c =
    has-only (pairs ((2, 1) ∷ [])) (λ k. not (has_some (pairs ((2, 3) ∷ (2, 4) ∷ [])) k && not (has_some (without_pair (pairs ((2, 3) ∷ (2, 4) ∷ [])) 2 3) k))) 2 1
    ∙ (λ n. has-pairs ((2, 1) ∷ []) 2 1 n && not (has_some-pairs ((2, 3) ∷ (2, 4) ∷ []) 2 n && not (waits_for_four n)))
