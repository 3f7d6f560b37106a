use Rattle.std.proofs.Common.{◌≡◌, ℕ, zero, suc, true, false, ◌⊎◌, ◌&&◌, ◌==◌, List, [], ◌∷◌, Contains, refl, sym, ap, ◌∙◌, subst, inl, inr, true≢false, arith}
use Rattle.std.specs.List.Sorted.{IsStrictlySortedBy}
use Rattle.std.proofs.lemmas.Bool.{and_parts, or_cases, eqb-true}
use Rattle.cmh_frames.specs.Topology.{At, home}
use Rattle.cmh_frames.specs.declared.frame.Frame.TheVariants.{Probe}
use Rattle.cmh_frames.specs.Relation.{Relation, has}
use Rattle.cmh_frames.specs.Paths.{IsPath, WaitsLocally, ReachesLocally, DependsOnItself}
use Rattle.cmh_frames.specs.Rules.{IsEdgeFrom, AreProbes}
use Rattle.cmh_frames.specs.Scripts.{two_beside_two}
use Rattle.cmh_frames.proofs.Listed.{pairs, has-pairs}
use Rattle.cmh_frames.proofs.Places.{one_place}
use Rattle.cmh_frames.proofs.examples.frames_go_out_in_order.Goals as goal

-- the waits of site 1
abbrev waits : Relation
waits = pairs ((1, 5) ∷ (1, 12) ∷ (5, 11) ∷ [])

-- it is this pair
is_that : (a b x y : ℕ) → ((x == a) && (y == b)) ≡ true → (x ≡ a) × (y ≡ b)
is_that a b x y h = let both = and_parts (x == a) (y == b) h in (eqb-true x a both.0, eqb-true y b both.1)

-- each of them
each : (x y : ℕ) → has waits x y ≡ true → ((x ≡ 1) × (y ≡ 5)) ⊎ (((x ≡ 1) × (y ≡ 12)) ⊎ ((x ≡ 5) × (y ≡ 11)))
each x y h = elim (or_cases ((x == 1) && (y == 5)) _ (sym (has-pairs ((1, 5) ∷ (1, 12) ∷ (5, 11) ∷ []) x y) ∙ h)) [
  | inl e ↦ inl (is_that 1 5 x y e)
  | inr others ↦ elim (or_cases ((x == 1) && (y == 12)) _ others) [
    | inl e ↦ inr (inl (is_that 1 12 x y e))
    | inr last ↦ elim (or_cases ((x == 5) && (y == 11)) false last) [
      | inl e ↦ inr (inr (is_that 5 11 x y e))
      | inr e ↦ absurd (true≢false (sym e))
    ]
  ]
]

-- what waits at site 2 is not at site 1
away : (k q : ℕ) → At two_beside_two k 2 → q ≡ k → At two_beside_two q 1 → ⊥
away k q at e here = omega (arith, one_place two_beside_two k 2 1 at (subst (λ z. At two_beside_two z 1) e here))

-- the only local wait is that of 1 for 5
local_wait : (p q : ℕ) → WaitsLocally two_beside_two 1 waits p q → (p ≡ 1) × (q ≡ 5)
local_wait p q h = elim (each p q h.2) [
  | inl e ↦ e
  | inr others ↦ elim others [
    | inl e ↦ absurd (away 12 q refl e.1 h.1)
    | inr e ↦ absurd (away 11 q refl e.1 h.1)
  ]
]

-- from 5 no path goes on
from_five : (members : List ℕ) (p q : ℕ) → p ≡ 5 → IsPath (WaitsLocally two_beside_two 1 waits) p members q → q ≡ 5
from_five [] p q at path = sym path ∙ at
from_five (x ∷ xs) p q at path = absurd (omega (arith, at, (local_wait p x path.0).0))

-- 1 waits locally for 5 alone, so it does not come back to itself
clear : DependsOnItself two_beside_two 1 waits 1 → ⊥
clear h = omega (arith, from_five h.2.1.0 h.0 1 (local_wait 1 h.0 h.1).1 h.2.1.1)

-- 5 waits locally for nobody
clear_five : DependsOnItself two_beside_two 1 waits 5 → ⊥
clear_five h = omega (arith, (local_wait 5 h.0 h.1).0)

-- 1 reaches 5
reaches_five : ReachesLocally two_beside_two 1 waits 1 5
reaches_five = (refl, (5 ∷ [], ((refl, refl, has-pairs ((1, 5) ∷ (1, 12) ∷ (5, 11) ∷ []) 1 5), refl)))

-- a wait that leaves the site
leaves : (j k : ℕ) → ReachesLocally two_beside_two 1 waits 1 j → has waits j k ≡ true → At two_beside_two k 2 → IsEdgeFrom two_beside_two 1 waits 1 (j, k)
leaves j k reached is at = (reached, is, (2, at, λ e. omega (arith, e)))

-- both waits that leave the site
both : AreProbes two_beside_two 1 waits 1 1 ((2, Probe (1, 1, 12)) ∷ (2, Probe (1, 5, 11)) ∷ [])
unfolding IsStrictlySortedBy
both = record { edges = (1, 12) ∷ (5, 11) ∷ []; ascending = ((refl, tt), (tt, tt)); all = λ edge. (to edge, from edge); are = refl }
  where
    to : (edge : ℕ × ℕ) → Contains ((1, 12) ∷ (5, 11) ∷ []) edge → IsEdgeFrom two_beside_two 1 waits 1 edge
    to edge (zero, below, is) = subst (IsEdgeFrom two_beside_two 1 waits 1) is (leaves 1 12 (refl, ([], refl)) (has-pairs ((1, 5) ∷ (1, 12) ∷ (5, 11) ∷ []) 1 12) refl)
    to edge (suc zero, below, is) = subst (IsEdgeFrom two_beside_two 1 waits 1) is (leaves 5 11 reaches_five (has-pairs ((1, 5) ∷ (1, 12) ∷ (5, 11) ∷ []) 5 11) refl)
    to edge (suc (suc n), below, is) = absurd (omega (arith, below))

    from : (edge : ℕ × ℕ) → IsEdgeFrom two_beside_two 1 waits 1 edge → Contains ((1, 12) ∷ (5, 11) ∷ []) edge
    from edge h = elim (each edge.0 edge.1 h.1) [
      | inl e ↦ absurd (h.2.2 (one_place two_beside_two edge.1 h.2.0 1 h.2.1 (ap (home two_beside_two) e.1)))
      | inr others ↦ elim others [
        | inl e ↦ (0, omega arith, λ n. (sym e.0 n, sym e.1 n))
        | inr e ↦ (1, omega arith, λ n. (sym e.0 n, sym e.1 n))
      ]
    ]

-- the one that 5 reaches
one : AreProbes two_beside_two 1 waits 5 5 ((2, Probe (5, 5, 11)) ∷ [])
unfolding IsStrictlySortedBy
one = record { edges = (5, 11) ∷ []; ascending = (tt, tt); all = λ edge. (to edge, from edge); are = refl }
  where
    to : (edge : ℕ × ℕ) → Contains ((5, 11) ∷ []) edge → IsEdgeFrom two_beside_two 1 waits 5 edge
    to edge (zero, below, is) = subst (IsEdgeFrom two_beside_two 1 waits 5) is ((refl, ([], refl)), has-pairs ((1, 5) ∷ (1, 12) ∷ (5, 11) ∷ []) 5 11, (2, refl, λ e. omega (arith, e)))
    to edge (suc n, below, is) = absurd (omega (arith, below))

    from : (edge : ℕ × ℕ) → IsEdgeFrom two_beside_two 1 waits 5 edge → Contains ((5, 11) ∷ []) edge
    from edge h = elim (each edge.0 edge.1 h.1) [
      | inl e ↦ absurd (h.2.2 (one_place two_beside_two edge.1 h.2.0 1 h.2.1 (ap (home two_beside_two) e.1)))
      | inr others ↦ elim others [
        | inl e ↦ absurd (omega (arith, e.0, from_five h.0.1.0 5 edge.0 refl h.0.1.1))
        | inr e ↦ (0, omega arith, λ n. (sym e.0 n, sym e.1 n))
      ]
    ]

pub returns-clause-probes : goal.returns-clause-probes
returns-clause-probes c = inr (clear, both, refl)

pub returns-clause-only_what_it_reaches : goal.returns-clause-only_what_it_reaches
returns-clause-only_what_it_reaches c = inr (clear_five, one, refl)
