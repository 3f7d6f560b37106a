use Rattle.std.proofs.Common.{◌≡◌, ℕ, true, false, ◌⊎◌, ◌&&◌, ◌||◌, ◌==◌, List, [], ◌∷◌, ◌++◌, refl, sym, ap, ◌∙◌, subst, inl, inr, true≢false, arith}
use Rattle.std.specs.List.{list_any, AllByRecursion}
use Rattle.std.proofs.lemmas.Bool.{and_parts, or_cases, eqb-true}
use Rattle.cmh_frames.specs.declared.event.Event.TheVariants.{Ask}
use Rattle.cmh_frames.specs.Entries.{WorldEvent}
use Rattle.cmh_frames.specs.Paths.{IsPath}
use Rattle.cmh_frames.specs.Waits.{Waits, IsCycle}
use Rattle.cmh_frames.specs.LastAsker.{is_ask_of}
use Rattle.cmh_frames.specs.Scripts.{at_site, silent, waits_for_a_cycle}
use Rattle.cmh_frames.proofs.examples.waiting_for_a_cycle.Goals as goal

-- it is the ask of a that names b
is_that : (a b j k : ℕ) → ((a == j) && ((b == k) || false)) ≡ true → (j ≡ a) × (k ≡ b)
is_that a b j k h =
    let both = and_parts (a == j) ((b == k) || false) h in (
      sym (eqb-true a j both.0),
      elim (or_cases (b == k) false both.1) [
        | inl e ↦ sym (eqb-true b k e)
        | inr e ↦ absurd (true≢false (sym e))
      ],
    )

-- who waits for whom
each : (j k : ℕ) → Waits waits_for_a_cycle j k → ((j ≡ 2) × (k ≡ 1)) ⊎ (((j ≡ 1) × (k ≡ 2)) ⊎ ((j ≡ 3) × (k ≡ 1)))
each j k h = elim (or_cases ((2 == j) && ((1 == k) || false)) _ h) [
  | inl e ↦ inl (is_that 2 1 j k e)
  | inr others ↦ elim (or_cases ((1 == j) && ((2 == k) || false)) _ others) [
    | inl e ↦ inr (inl (is_that 1 2 j k e))
    | inr last ↦ elim (or_cases ((3 == j) && ((1 == k) || false)) false last) [
      | inl e ↦ inr (inr (is_that 3 1 j k e))
      | inr e ↦ absurd (true≢false (sym e))
    ]
  ]
]

-- a wait leads to 1 or 2, and so does each path
stays : (members : List ℕ) (p q : ℕ) → (p ≡ 1) ⊎ (p ≡ 2) → IsPath (Waits waits_for_a_cycle) p members q → (q ≡ 1) ⊎ (q ≡ 2)
stays [] p q at path = subst (λ z. (z ≡ 1) ⊎ (z ≡ 2)) path at
stays (x ∷ xs) p q at path = elim (each p x path.0) [
  | inl e ↦ stays xs x q (inl e.1) path.1
  | inr others ↦ elim others [
    | inl e ↦ stays xs x q (inr e.1) path.1
    | inr e ↦ stays xs x q (inl e.1) path.1
  ]
]

-- so no cycle comes back to 3
none : (members : List ℕ) → IsCycle waits_for_a_cycle 3 members → ⊥
none [] h = h
none (first ∷ []) h = h
none (first ∷ second ∷ others) h = elim (stays others second 3 next h.1.1) [
  | inl e ↦ omega (arith, e)
  | inr e ↦ omega (arith, e)
]
  where
    next : (second ≡ 1) ⊎ (second ≡ 2)
    next = elim (each first second h.1.0) [
      | inl e ↦ inl e.1
      | inr more ↦ elim more [
        | inl e ↦ inr e.1
        | inr e ↦ inl e.1
      ]
    ]

pub returns-clause-not_on_cycle : goal.returns-clause-not_on_cycle
returns-clause-not_on_cycle c on = none on.0 on.1

pub returns-clause-last : goal.returns-clause-last
returns-clause-last c = record {
  member = refl;
  before = at_site 1 (silent (Ask 3 (1 ∷ []))) ∷ at_site 1 (silent (Ask 1 (2 ∷ []))) ∷ [];
  ask = at_site 1 (silent (Ask 2 (1 ∷ [])));
  later = [];
  whole = refl;
  asks = refl;
  none_later = tt;
}

-- after the ask of 1 comes that of 2
after_it : (before : List WorldEvent) (ask : WorldEvent) (later : List WorldEvent) → waits_for_a_cycle ≡ before ++ ask ∷ later → is_ask_of 1 ask.entry.event ≡ true
    → AllByRecursion (λ (e : WorldEvent). list_any (λ p. is_ask_of p e.entry.event) (1 ∷ 2 ∷ 1 ∷ []) ≡ false) later → ⊥
after_it [] ask later whole asks none_later =
    let is : at_site 1 (silent (Ask 3 (1 ∷ []))) ≡ ask = cc whole in
    true≢false (sym asks ∙ ap (λ e. is_ask_of 1 e.entry.event) (sym is))
after_it (x ∷ []) ask later whole asks none_later =
    let rest : at_site 1 (silent (Ask 2 (1 ∷ []))) ∷ [] ≡ later = cc whole in
    true≢false (subst (AllByRecursion (λ (e : WorldEvent). list_any (λ p. is_ask_of p e.entry.event) (1 ∷ 2 ∷ 1 ∷ []) ≡ false)) (sym rest) none_later).0
after_it (x ∷ y ∷ []) ask later whole asks none_later =
    let is : at_site 1 (silent (Ask 2 (1 ∷ []))) ≡ ask = cc whole in
    true≢false (sym asks ∙ ap (λ e. is_ask_of 1 e.entry.event) (sym is))
after_it (x ∷ y ∷ z ∷ []) ask later whole asks none_later = absurd (cc whole)
after_it (x ∷ y ∷ z ∷ more ∷ others) ask later whole asks none_later = absurd (cc whole)

pub returns-clause-not_last : goal.returns-clause-not_last
returns-clause-not_last c last = after_it last.before last.ask last.later last.whole last.asks last.none_later
