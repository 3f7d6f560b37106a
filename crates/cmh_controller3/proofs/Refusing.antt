-- Which events are accepted, and that what is refused is not.
use Rattle.std.proofs.Common.{◌≡◌, ◌≢◌, ℕ, ◌+◌, ◌<◌, ◌≤◌, Bool, true, false, not, ◌||◌, List, [], ◌∷◌, length, ◌==◌, refl, sym, ap, ◌∙◌, subst, inl, inr, arith}
use Rattle.std.specs.List.{list_any}
use Rattle.std.proofs.lemmas.Bool.{eqb-true, eq-eqb, or_cases, or_parts, true≢false}
use Rattle.std.specs.Prelude.{IsOk, MatchResult, Result, Ok, Err}
use Rattle.cmh_model3.specs.declared.event.Event.TheVariants.{Ask, Reply, Withdraw}
use Rattle.cmh_model3.specs.Lists.{in_list, is_nonempty}
use Rattle.cmh_model3.specs.State.{State, is_blocked, waits_for}
use Rattle.cmh_model3.specs.Rules.{Accepts, clock_limit, most_waits}
use Rattle.cmh_controller3.specs.declared.refusal.Refusal.{Refusal}
use Rattle.cmh_controller3.specs.declared.refusal.Refusal.TheVariants.{UnknownProcess, NotHere, BadTargets, Blocked, NotBlocked, NotOwed, Unlawful, Memory, Leaving, AlreadyWaits, NotWaiting, ClockSpent}
use Rattle.cmh_controller3.specs.Refusals.{AreOthers, CanName, MayAsk, RefusesAsk, RefusesReply, RefusesWithdraw}

-- none of a list passes a test, or one does
pub none_any : (f : ℕ → Bool) (ks : List ℕ) (k : ℕ) → list_any f ks ≡ false → in_list ks k ≡ true → f k ≡ false
none_any f [] k h m = absurd (true≢false (sym m))
none_any f (q ∷ qs) k h m =
    let parts = or_parts (f q) (list_any f qs) h in
    elim (or_cases (q == k) (in_list qs k) m) [
      | inl e ↦ ap f (sym (eqb-true q k e)) ∙ parts.0
      | inr later ↦ none_any f qs k parts.1 later
    ]

pub some_any : (f : ℕ → Bool) (ks : List ℕ) → list_any f ks ≡ true → (k : ℕ) × (in_list ks k ≡ true) × (f k ≡ true)
some_any f [] h = absurd (true≢false (sym h))
some_any f (q ∷ qs) h = elim (or_cases (f q) (list_any f qs) h) [
  | inl e ↦ (q, ap (λ z. z || in_list qs q) (eq-eqb q q refl), e)
  | inr later ↦ let r = some_any f qs later in (r.0, ap (λ z. (q == r.0) || z) r.1 ∙ or_yes (q == r.0), r.2)
]
  where
    or_yes : (b : Bool) → (b || true) ≡ true
    or_yes true = refl
    or_yes false = refl

both : {b : Bool} → b ≡ true → b ≡ false → ⊥
both h g = true≢false (sym h ∙ g)

module _ (home : ℕ → ℕ) (s : ℕ) (v : State) where
  pub ask_accepted : (j : ℕ) (ks : List ℕ) → MayAsk home s v j ks → list_any (v.leaving j) ks ≡ false → list_any (waits_for v j) ks ≡ false → v.clock + 1 < clock_limit
      → Accepts home s v (Ask j ks)
  ask_accepted j ks may staying fresh ticks =
      (may.0, may.1, (may.2.0.0, λ k m. ((may.2.0.1 k m).0, none_any (v.leaving j) ks k staying m, none_any (waits_for v j) ks k fresh m, (may.2.0.1 k m).1)), may.2.1, ticks)

  -- a blocked process may ask of nobody, and any of those whom it may name
  pub start_may : (j : ℕ) (ks : List ℕ) → home j ≡ s → ks ≡ [] → is_blocked v j ≡ true → length (v.waits j) ≤ most_waits → MayAsk home s v j ks
  start_may j ks here none blocked few = subst (MayAsk home s v j) (sym none) (here, ap (λ z. z || false) blocked, ((tt, λ k m. absurd (true≢false (sym m))), omega (arith, few)))

  pub named_may : (j : ℕ) (ks : List ℕ) → home j ≡ s → is_nonempty ks ≡ true → CanName home v j ks → MayAsk home s v j ks
  named_may j ks here some can = (here, ap (λ z. is_blocked v j || z) some ∙ or_true (is_blocked v j), can)
    where
      or_true : (b : Bool) → (b || true) ≡ true
      or_true true = refl
      or_true false = refl

  pub withdraw_accepted : (j : ℕ) (ks : List ℕ) → home j ≡ s → AreOthers home j ks → is_nonempty ks ≡ true → list_any (λ k. not (waits_for v j k)) ks ≡ false
      → Accepts home s v (Withdraw j ks)
  withdraw_accepted j ks here others some all = (here, some, others.0, λ k m. was_not (waits_for v j k) (none_any (λ k. not (waits_for v j k)) ks k all m))
    where
      was_not : (b : Bool) → not b ≡ false → b ≡ true
      was_not true h = refl
      was_not false h = absurd (true≢false h)

  module _ (site : 0 < s) where
    not_here : (p : ℕ) → home p ≡ 0 → home p ≡ s → ⊥
    not_here p none here = let zero : s ≡ 0 = sym here ∙ none in absurd (omega arith)

    pub refused_ask : (j : ℕ) (ks : List ℕ) (r : Refusal) → RefusesAsk home s v j ks r → Accepts home s v (Ask j ks) → ⊥
    refused_ask j ks UnknownProcess h a = not_here j h a.0
    refused_ask j ks NotHere h a = h.1 a.0
    refused_ask j ks BadTargets h a = h.2 ((a.2.0, λ k m. let t = a.2.1 k m in (t.0, t.3)), a.3)
    refused_ask j ks Blocked h a = h
    refused_ask j ks NotBlocked h a = elim (or_cases (is_blocked v j) (is_nonempty ks) a.1) [ inl e ↦ both e h.2 | inr e ↦ both e h.1 ]
    refused_ask j ks NotOwed h a = h
    refused_ask j ks Unlawful h a = h
    refused_ask j ks Memory h a = h
    refused_ask j ks Leaving h a = let r = some_any (v.leaving j) ks h.1 in both r.2 (a.2.1 r.0 r.1).1
    refused_ask j ks AlreadyWaits h a = let r = some_any (waits_for v j) ks h.2 in both r.2 (a.2.1 r.0 r.1).2
    refused_ask j ks NotWaiting h a = h
    refused_ask j ks ClockSpent h a = let spent = h.3 in let ticks = a.4 in absurd (omega (arith, spent, ticks))

    pub refused_reply : ((k j : ℕ) → v.owed k j ≡ true → home j ≢ 0) → (k j : ℕ) (r : Refusal) → RefusesReply home s v k j r → Accepts home s v (Reply k j) → ⊥
    refused_reply known k j UnknownProcess (inl h) a = not_here k h a.0
    refused_reply known k j UnknownProcess (inr h) a = known k j a.2 h
    refused_reply known k j NotHere h a = h.0.1 a.0
    refused_reply known k j BadTargets h a = h
    refused_reply known k j Blocked h a = both h.2 a.1
    refused_reply known k j NotBlocked h a = h
    refused_reply known k j NotOwed h a = both a.2 h.3
    refused_reply known k j Unlawful h a = h
    refused_reply known k j Memory h a = h
    refused_reply known k j Leaving h a = h
    refused_reply known k j AlreadyWaits h a = h
    refused_reply known k j NotWaiting h a = h
    refused_reply known k j ClockSpent h a = h

    pub refused_withdraw : ((j k : ℕ) → waits_for v j k ≡ true → (k ≢ j) × (home k ≢ 0)) → (j : ℕ) (ks : List ℕ) (r : Refusal) → RefusesWithdraw home s v j ks r → Accepts home s v (Withdraw j ks) → ⊥
    refused_withdraw waited j ks UnknownProcess h a = not_here j h a.0
    refused_withdraw waited j ks NotHere h a = h.1 a.0
    refused_withdraw waited j ks BadTargets h a = h.1 (a.2, λ k m. waited j k (a.3 k m))
    refused_withdraw waited j ks Blocked h a = h
    refused_withdraw waited j ks NotBlocked h a = h
    refused_withdraw waited j ks NotOwed h a = h
    refused_withdraw waited j ks Unlawful h a = h
    refused_withdraw waited j ks Memory h a = h
    refused_withdraw waited j ks Leaving h a = h
    refused_withdraw waited j ks AlreadyWaits h a = h
    refused_withdraw waited j ks NotWaiting h a = elim h.2 [
      | inl none ↦ both a.1 none
      | inr some ↦ let r = some_any (λ k. not (waits_for v j k)) ks some in true≢false (sym r.2 ∙ ap not (a.3 r.0 r.1))
    ]
    refused_withdraw waited j ks ClockSpent h a = h

-- a check that tells what holds where it answers
pub decided : (r : Result (Unit {0}) Refusal) (P : Type 0) (Q : Refusal → Type 0) → MatchResult r (λ _. P) Q → ((e : Refusal) → Q e → P → ⊥) → (IsOk r → P) × (P → IsOk r)
decided (Ok u) P Q h no' = ((λ _. h), (λ _. refl))
decided (Err e) P Q h no' = ((λ ok. absurd (true≢false (sym ok))), (λ p. absurd (no' e h p)))
