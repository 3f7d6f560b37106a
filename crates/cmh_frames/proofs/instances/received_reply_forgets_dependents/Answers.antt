use Rattle.std.proofs.Common.{◌≡◌, true, not, ◌&&◌, [], ◌∷◌, ◌∙◌, arith}
use Rattle.cmh_frames.specs.Relation.{has_some, without_pair}
use Rattle.cmh_frames.proofs.Listed.{pairs, has-pairs, has_some-pairs}
use Rattle.cmh_frames.proofs.Pairs.{has-only, has-without_other, has_some-from}
use Rattle.cmh_frames.proofs.Scripts.{no_more_waits}
use Rattle.cmh_frames.proofs.instances.received_reply_forgets_dependents.Goals as goal

-- 1 waits for 3 still
still : has_some (without_pair (pairs ((1, 2) ∷ (1, 3) ∷ [])) 1 2) 1 ≡ true
still = has_some-from (without_pair (pairs ((1, 2) ∷ (1, 3) ∷ [])) 1 2) 1 3 (has-without_other (pairs ((1, 2) ∷ (1, 3) ∷ [])) 1 2 1 3 (λ same. omega (arith, same.1)) ∙ has-pairs ((1, 2) ∷ (1, 3) ∷ []) 1 3)

pub returns-clause-kept : goal.returns-clause-kept
returns-clause-kept c =
    has-only (pairs ((1, 2) ∷ [])) (λ k. not (has_some (pairs ((1, 2) ∷ (1, 3) ∷ [])) k && not (has_some (without_pair (pairs ((1, 2) ∷ (1, 3) ∷ [])) 1 2) k))) 1 2
    ∙ (λ n. has-pairs ((1, 2) ∷ []) 1 2 n && not (has_some-pairs ((1, 2) ∷ (1, 3) ∷ []) 1 n && not (still n)))

pub returns-clause-forgotten : goal.returns-clause-forgotten
returns-clause-forgotten c =
    has-only (pairs ((1, 2) ∷ [])) (λ k. not (has_some (pairs ((1, 3) ∷ [])) k && not (has_some (without_pair (pairs ((1, 3) ∷ [])) 1 3) k))) 1 2
    ∙ (λ n. has-pairs ((1, 2) ∷ []) 1 2 n && not (has_some-pairs ((1, 3) ∷ []) 1 n && not (no_more_waits 1 3 n)))
