use Rattle.std.proofs.Common.{◌≡◌, ◌≢◌, ℕ, zero, suc, true, false, not, ◌&&◌, ◌==◌, if◌then◌else◌, List, [], ◌∷◌, Contains, refl, sym, ap, ◌∙◌, subst, inl, inr, true≢false, None, Some, nat_cmp, arith, IsSome}
use Rattle.std.specs.List.Sorted.{IsStrictlySortedBy}
use Rattle.std.specs.FinSet as set
use Rattle.std.specs.Cmp.{nat_cmp_total}
use Rattle.std.proofs.lemmas.Bool.{and_parts, or_cases, eqb-true}
use Rattle.cmh_frames.proofs.Choices.{match_true}
use Rattle.cmh_frames.specs.declared.frame.Frame.TheVariants.{Request, Probe}
use Rattle.cmh_frames.specs.Topology.{At, home}
use Rattle.cmh_frames.specs.declared.event.Event.TheVariants.{Ask, Start, Got}
use Rattle.cmh_frames.specs.Relation.{Relation, has}
use Rattle.cmh_frames.specs.Paths.{IsPath, WaitsLocally, ReachesLocally, DependsOnItself}
use Rattle.cmh_frames.specs.Rules.{AreTargets, IsEdgeFrom, AreProbes, probe_acts}
use Rattle.cmh_frames.specs.Scripts.{two_beside_one, state_with, silent, outcome, at_site}
use Rattle.cmh_frames.proofs.LongerRuns.{run_first, run_more}
use Rattle.cmh_frames.proofs.Listed.{pairs, has-pairs, has_some-pairs}
use Rattle.cmh_frames.proofs.Places.{one_place, site_of-at}
use Rattle.cmh_frames.proofs.examples.deadlock_found_by_local_dependence.Goals as goal

-- ---- a process that waits for one of another site alone

module _ (s b j k : ℕ) (waits : Relation) (only : (q : ℕ) → has waits j q ≡ true → q ≡ k) (waits_for : has waits j k ≡ true)
    (at_j : At two_beside_one j s) (at_k : At two_beside_one k b) (apart : b ≢ s) where
  -- it has no local wait
  none_local : (q : ℕ) → WaitsLocally two_beside_one s waits j q → ⊥
  none_local q h = apart (one_place two_beside_one k b s at_k (subst (λ z. At two_beside_one z s) (only q h.2) h.1))

  -- so it reaches itself alone
  itself : (members : List ℕ) (q : ℕ) → IsPath (WaitsLocally two_beside_one s waits) j members q → j ≡ q
  itself [] q path = path
  itself (x ∷ xs) q path = absurd (none_local x path.0)

  -- and does not depend on itself
  clear : DependsOnItself two_beside_one s waits j → ⊥
  clear h = none_local h.0 h.1

  -- its probes are one
  one_probe : (i : ℕ) → AreProbes two_beside_one s waits i j ((b, Probe (i, j, k)) ∷ [])
  unfolding IsStrictlySortedBy
  one_probe i = record {
    edges = (j, k) ∷ [];
    ascending = (tt, tt);
    all = λ edge. (to edge, from edge);
    are = ap (λ z. (z, Probe (i, j, k)) ∷ []) (sym (site_of-at two_beside_one k b at_k));
  }
    where
      to : (edge : ℕ × ℕ) → Contains ((j, k) ∷ []) edge → IsEdgeFrom two_beside_one s waits j edge
      to edge (zero, below, is) = subst (IsEdgeFrom two_beside_one s waits j) is ((at_j, ([], refl)), waits_for, (b, at_k, apart))
      to edge (suc n, below, is) = absurd (omega (arith, below))

      from : (edge : ℕ × ℕ) → IsEdgeFrom two_beside_one s waits j edge → Contains ((j, k) ∷ []) edge
      from edge h =
          let first : j ≡ edge.0 = itself h.0.1.0 edge.0 h.0.1.1 in
          let second = only edge.1 (subst (λ z. has waits z edge.1 ≡ true) (sym first) h.1) in
          (0, omega arith, λ n. (first n, sym second n))

-- ---- the two sites

abbrev waits_of_one : Relation
waits_of_one = pairs ((3, 1) ∷ (1, 2) ∷ [])

-- 1 waits for 2 alone
for_two : (q : ℕ) → has waits_of_one 1 q ≡ true → q ≡ 2
for_two q h = elim (or_cases ((1 == 1) && (q == 2)) false (sym (has-pairs ((3, 1) ∷ (1, 2) ∷ []) 1 q) ∙ h)) [
  | inl e ↦ eqb-true q 2 (and_parts (1 == 1) (q == 2) e).1
  | inr e ↦ absurd (true≢false (sym e))
]

abbrev waits_of_two : Relation
waits_of_two = pairs ((2, 3) ∷ [])

-- and 2 for 3
for_three : (q : ℕ) → has waits_of_two 2 q ≡ true → q ≡ 3
for_three q h = elim (or_cases ((2 == 2) && (q == 3)) false (sym (has-pairs ((2, 3) ∷ []) 2 q) ∙ h)) [
  | inl e ↦ eqb-true q 3 (and_parts (2 == 2) (q == 3) e).1
  | inr e ↦ absurd (true≢false (sym e))
]

-- one process that is asked
target : (asker k : ℕ) → IsSome (home two_beside_one k) → k ≢ asker → AreTargets two_beside_one asker (k ∷ [])
target asker k known other = record { some = omega arith; within = omega arith; ascending = (tt, tt); known = ((known, other), tt) }

-- the probe acts at 2
acts_at_two : probe_acts (state_with ((2, 3) ∷ []) ((2, 1) ∷ []) [] []) 1 1 2 ≡ true
acts_at_two n = has_some-pairs ((2, 3) ∷ []) 2 n && (not (has-pairs [] 2 1 n) && has-pairs ((2, 1) ∷ []) 2 1 n)

-- and at 3, whoever is declared
acts_at_three : (declared : List ℕ) → probe_acts (state_with ((3, 1) ∷ (1, 2) ∷ []) ((3, 2) ∷ (1, 3) ∷ []) [] declared) 1 2 3 ≡ true
acts_at_three declared n = has_some-pairs ((3, 1) ∷ (1, 2) ∷ []) 3 n && (not (has-pairs [] 3 1 n) && has-pairs ((3, 2) ∷ (1, 3) ∷ []) 3 2 n)

-- 3 reaches 1
three_reaches_one : ReachesLocally two_beside_one 1 waits_of_one 3 1
three_reaches_one = (refl, (1 ∷ [], ((refl, refl, has-pairs ((3, 1) ∷ (1, 2) ∷ []) 3 1), refl)))

pub returns-clause-run : goal.returns-clause-run
returns-clause-run c =
    let first = run_more two_beside_one [] (at_site 1 (outcome (Ask 1 (2 ∷ [])) ((2, Request (1, 2)) ∷ []) None)) (run_first two_beside_one)
    (refl, has_some-pairs [] 1, target 1 2 refl (λ e. omega (arith, e))) (refl, refl) tt in
    let second = run_more two_beside_one _ (at_site 1 (silent (Ask 3 (1 ∷ [])))) first
    (refl, has_some-pairs ((1, 2) ∷ []) 3, target 3 1 refl (λ e. omega (arith, e))) (refl, refl) tt in
    let third = run_more two_beside_one _ (at_site 2 (outcome (Ask 2 (3 ∷ [])) ((1, Request (2, 3)) ∷ []) None)) second
    (refl, has_some-pairs [] 2, target 2 3 refl (λ e. omega (arith, e))) (refl, refl) tt in
    let fourth = run_more two_beside_one _ (at_site 2 (silent (Got 1 (Request (1, 2))))) third (λ e. omega (arith, e), refl, refl, has-pairs [] 2 1) (refl, refl) ([], refl) in
    let fifth = run_more two_beside_one _ (at_site 1 (silent (Got 2 (Request (2, 3))))) fourth (λ e. omega (arith, e), refl, refl, has-pairs ((1, 3) ∷ []) 3 2) (refl, refl) ([], refl) in
    let started = run_more two_beside_one _ (at_site 1 (outcome (Start 1) ((2, Probe (1, 1, 2)) ∷ []) None)) fifth
    (refl, has_some-pairs ((3, 1) ∷ (1, 2) ∷ []) 1, set.contains-empty nat_cmp 1)
    (inr (
      clear 1 2 1 2 waits_of_one for_two (has-pairs ((3, 1) ∷ (1, 2) ∷ []) 1 2) refl refl (λ e. omega (arith, e)),
      one_probe 1 2 1 2 waits_of_one for_two (has-pairs ((3, 1) ∷ (1, 2) ∷ []) 1 2) refl refl (λ e. omega (arith, e)) 1,
      refl,
    ))
    tt in
    let forwarded = run_more two_beside_one _ (at_site 2 (outcome (Got 1 (Probe (1, 1, 2))) ((1, Probe (1, 2, 3)) ∷ []) None)) started
    (λ e. omega (arith, e), refl, refl, refl)
    (match_true _ _ _ acts_at_two (inr (
      (λ h. omega (arith, itself 2 1 2 3 waits_of_two for_three (has-pairs ((2, 3) ∷ []) 2 3) refl refl (λ e. omega (arith, e)) h.1.0 1 h.1.1)),
      one_probe 2 1 2 3 waits_of_two for_three (has-pairs ((2, 3) ∷ []) 2 3) refl refl (λ e. omega (arith, e)) 1,
      refl,
    )))
    ([], refl) in
    run_more two_beside_one _ (at_site 1 (outcome (Got 2 (Probe (1, 2, 3))) [] (Some 1))) forwarded
    (λ e. omega (arith, e), refl, refl, refl)
    (match_true _ _ _ (acts_at_three []) (inl (three_reaches_one, refl, ap (λ z. if z then None else Some 1) (sym (set.contains-empty nat_cmp 1)))))
    ([], refl)

pub returns-clause-state : goal.returns-clause-state
returns-clause-state c =
    ap (λ z. if z then state_with ((3, 1) ∷ (1, 2) ∷ []) ((3, 2) ∷ (1, 3) ∷ []) ((3, 1) ∷ []) (1 ∷ []) else state_with ((3, 1) ∷ (1, 2) ∷ []) ((3, 2) ∷ (1, 3) ∷ []) [] []) (acts_at_three [])

pub returns-clause-declared_before : goal.returns-clause-declared_before
returns-clause-declared_before c =
    match_true _ _ _ (acts_at_three (1 ∷ [])) (inl (three_reaches_one, refl, ap (λ z. if z then None else Some 1) (sym (set.contains-insert nat_cmp_total set.empty 1 1))))
