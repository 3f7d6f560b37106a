-- What it means that an accepted event asks, grants or adds a dependent.
use Rattle.std.proofs.Common.{◌≡◌, ◌≢◌, ◌⊎◌, ℕ, Bool, true, false, not, ◌&&◌, List, [], ◌∷◌, ◌==◌, if◌then◌else◌, refl, sym, ap, ◌∙◌, subst, inl, inr, true≢false, Option, None, Some, IsSome}
use Rattle.std.specs.List.{list_any, AllByRecursion}
use Rattle.std.proofs.lemmas.Bool.{eqb-true, and_parts, or_cases, cases_Bool}
use Rattle.cmh_frames.specs.declared.frame.Frame.TheVariants.{Request, Reply as Reply_frame, Probe}
use Rattle.cmh_frames.specs.declared.event.Event.{Event}
use Rattle.cmh_frames.specs.declared.event.Event.TheVariants.{Ask, Reply, Start, Got}
use Rattle.cmh_frames.specs.Topology.{Topology, home, At, is_at}
use Rattle.cmh_frames.specs.Relation.{Relation, has, has_some, with_pair, without_pair, with_each, only_firsts}
use Rattle.cmh_frames.specs.State.{State, is_blocked}
use Rattle.cmh_frames.specs.Rules.{Accepts, after, probe_acts}
use Rattle.cmh_frames.specs.Journals.{frame_from}
use Rattle.cmh_frames.specs.Waits.{asks_for, grants}
use Rattle.cmh_frames.proofs.Pairs.{has_some-from, has_some-to, has-none, has-with_each_kept, has-only, has-with_other}
use Rattle.cmh_frames.proofs.Places.{frame_from-no, if-dependents}
use Rattle.cmh_frames.proofs.Moves.{both_or_not, both_yes, reply_waits, probe_waits}

-- what holds of each holds of one of them
any_known : (P : ℕ → Type 0) (k : ℕ) (ks : List ℕ) → AllByRecursion P ks → list_any (λ q. q == k) ks ≡ true → P k
any_known P k [] each h = absurd (true≢false (sym h))
any_known P k (x ∷ xs) each h = elim (or_cases (x == k) (list_any (λ q. q == k) xs) h) [
  | inl e ↦ subst P (eqb-true x k e) each.0
  | inr e ↦ any_known P k xs each.1 e
]

-- a known process has a home
pub some_home : (o : Option ℕ) → IsSome o → (b : ℕ) × (o ≡ Some b)
some_home None h = absurd (true≢false (sym h))
some_home (Some b) h = (b, refl)

-- an asker is at the site and waits for nobody, and its targets are known
pub asks_means : (t : Topology) (s : ℕ) (v : State) (ev : Event) (j k : ℕ) → Accepts t s v ev → asks_for j k ev ≡ true → At t j s × (has v.waits j k ≡ false) × ((b : ℕ) × At t k b)
asks_means t s v (Ask asker targets) j k acc h =
    let both = and_parts (asker == j) (list_any (λ q. q == k) targets) h in
    let same : asker ≡ j = eqb-true asker j both.0 in
    let known = any_known (λ q. IsSome (home t q) × (q ≢ asker)) k targets acc.2.known both.1 in
    (subst (λ x. At t x s) same acc.0, has-none v.waits j k (ap (λ x. has_some v.waits x) (sym same) ∙ acc.1), some_home (home t k) known.0)
asks_means t s v (Reply holder asker) j k acc h = absurd (true≢false (sym h))
asks_means t s v (Start i) j k acc h = absurd (true≢false (sym h))
asks_means t s v (Got a f) j k acc h = absurd (true≢false (sym h))

-- a holder that grants is at the site, is active and owes the asker
pub grants_means : (t : Topology) (s : ℕ) (v : State) (ev : Event) (j k : ℕ) → Accepts t s v ev → grants k j ev ≡ true → At t k s × (is_blocked v k ≡ false) × (has v.owed k j ≡ true)
grants_means t s v (Ask asker targets) j k acc h = absurd (true≢false (sym h))
grants_means t s v (Reply holder asker) j k acc h =
    let both = and_parts (holder == k) (asker == j) h in
    let one : holder ≡ k = eqb-true holder k both.0 in
    let two : asker ≡ j = eqb-true asker j both.1 in
    (subst (λ x. At t x s) one acc.0, ap (λ x. has_some v.waits x) (sym one) ∙ acc.1, ap (λ x. has v.owed x j) (sym one) ∙ ap (λ x. has v.owed holder x) (sym two) ∙ acc.2)
grants_means t s v (Start i) j k acc h = absurd (true≢false (sym h))
grants_means t s v (Got a f) j k acc h = absurd (true≢false (sym h))

-- no event asks and grants
pub asks_or_grants : (ev : Event) (j k : ℕ) → asks_for j k ev ≡ true → grants k j ev ≡ false
asks_or_grants (Ask asker targets) j k h = refl
asks_or_grants (Reply holder asker) j k h = absurd (true≢false (sym h))
asks_or_grants (Start i) j k h = refl
asks_or_grants (Got a f) j k h = refl

-- no frame comes from the site itself
pub none_from_own : (t : Topology) (s : ℕ) (v : State) (ev : Event) → Accepts t s v ev → frame_from s ev ≡ []
none_from_own t s v (Ask asker targets) acc = refl
none_from_own t s v (Reply holder asker) acc = refl
none_from_own t s v (Start i) acc = refl
none_from_own t s v (Got a (Request (x, y))) acc = frame_from-no a s (Request (x, y)) acc.0
none_from_own t s v (Got a (Reply_frame (x, y))) acc = frame_from-no a s (Reply_frame (x, y)) acc.0
none_from_own t s v (Got a (Probe (x, y, z))) acc = frame_from-no a s (Probe (x, y, z)) acc.0

-- who has not become active, and was blocked, is blocked
still_blocked : (old new : Bool) → not (old && not new) ≡ true → old ≡ true → new ≡ true
still_blocked true true h e = refl
still_blocked true false h e = absurd (true≢false (sym h))
still_blocked false new h e = absurd (true≢false (sym e))

-- an ask leaves the blocked blocked
more_waits : (r : Relation) (a : ℕ) (bs : List ℕ) (k : ℕ) → has_some r k ≡ true → has_some (with_each r a bs) k ≡ true
more_waits r a bs k h = let one = has_some-to r k h in has_some-from (with_each r a bs) k one.0 (has-with_each_kept r a bs k one.0 one.1)

-- a dependent was there before, and its process stays blocked, or a probe put it there
pub dependents_after :
    (t : Topology) (s : ℕ) (v : State) (ev : Event) (d : Option ℕ) (k i : ℕ) → has (after t s v ev d).dependents k i ≡ true
    → ((has v.dependents k i ≡ true) × (is_blocked v k ≡ true → is_blocked (after t s v ev d) k ≡ true)) ⊎ ((a : ℕ) × (f : ℕ) × (ev ≡ Got a (Probe (i, f, k))) × (probe_acts v i f k ≡ true))
dependents_after t s v (Ask asker targets) d k i h = inl (h, more_waits v.waits asker targets k)
dependents_after t s v (Reply holder asker) d k i h =
    let waits = reply_waits t s v holder asker d in
    elim (cases_Bool (is_at t asker s)) [
      | inl z ↦
          let kept = and_parts _ _ (sym (has-only v.dependents (λ p. not (has_some v.waits p && not (has_some (without_pair v.waits asker holder) p))) k i)
          ∙ sym (ap (λ r. has r k i) (if-dependents (is_at t asker s) _ _ ∙ ap (λ c. if c then only_firsts v.dependents (λ p. not (has_some v.waits p && not (has_some (without_pair v.waits asker holder) p))) else v.dependents) z)) ∙ h) in
          inl (kept.0, λ b. ap (λ r. has_some r k) (waits ∙ ap (λ c. if c then without_pair v.waits asker holder else v.waits) z) ∙ still_blocked (has_some v.waits k) (has_some (without_pair v.waits asker holder) k) kept.1 b)
      | inr z ↦
          inl (
            sym (ap (λ r. has r k i) (if-dependents (is_at t asker s) _ _ ∙ ap (λ c. if c then only_firsts v.dependents (λ p. not (has_some v.waits p && not (has_some (without_pair v.waits asker holder) p))) else v.dependents) z)) ∙ h,
            λ b. ap (λ r. has_some r k) (waits ∙ ap (λ c. if c then without_pair v.waits asker holder else v.waits) z) ∙ b,
          )
    ]
dependents_after t s v (Start p) d k i h = inl (h, λ b. b)
dependents_after t s v (Got a (Request (x, y))) d k i h = inl (h, λ b. b)
dependents_after t s v (Got a (Reply_frame (holder, asker))) d k i h =
    let kept = and_parts _ _ (sym (has-only v.dependents (λ p. not (has_some v.waits p && not (has_some (without_pair v.waits asker holder) p))) k i) ∙ h) in
    inl (kept.0, λ b. still_blocked (has_some v.waits k) (has_some (without_pair v.waits asker holder) k) kept.1 b)
dependents_after t s v (Got a (Probe (o, f, to))) d k i h =
    let blocked : is_blocked v k ≡ true → is_blocked (after t s v (Got a (Probe (o, f, to))) d) k ≡ true = λ b. ap (λ r. has_some r k) (probe_waits t s v a o f to d) ∙ b in
    elim (cases_Bool (probe_acts v o f to)) [
      | inl z ↦
          let new : has (with_pair v.dependents to o) k i ≡ true =
          sym (ap (λ r. has r k i) (if-dependents (probe_acts v o f to) _ _ ∙ ap (λ c. if c then with_pair v.dependents to o else v.dependents) z)) ∙ h in
          elim (both_or_not to o k i) [
            | inl e ↦ inr (a, f, (λ x. Got a (Probe ((e.1 x), f, (e.0 x)))), subst (λ q. probe_acts v i f q ≡ true) e.0 (subst (λ q. probe_acts v q f to ≡ true) e.1 z))
            | inr other ↦ inl (sym (has-with_other v.dependents to o k i (λ p. true≢false (sym (both_yes to o k i (sym p.0) (sym p.1)) ∙ other))) ∙ new, blocked)
          ]
      | inr z ↦ inl (sym (ap (λ r. has r k i) (if-dependents (probe_acts v o f to) _ _ ∙ ap (λ c. if c then with_pair v.dependents to o else v.dependents) z)) ∙ h, blocked)
    ]

-- and the asker that it grants to is known
pub grants_known : (t : Topology) (s : ℕ) (v : State) (ev : Event) (j k : ℕ) → Accepts t s v ev → grants k j ev ≡ true → (a : ℕ) × At t j a
grants_known t s v (Ask asker targets) j k acc h = absurd (true≢false (sym h))
grants_known t s v (Reply holder asker) j k acc h =
    let one = some_home (home t asker) acc.3 in
    (one.0, subst (λ x. At t x one.0) (eqb-true asker j (and_parts (holder == k) (asker == j) h).1) one.1)
grants_known t s v (Start i) j k acc h = absurd (true≢false (sym h))
grants_known t s v (Got a f) j k acc h = absurd (true≢false (sym h))
