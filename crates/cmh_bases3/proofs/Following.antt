-- The base of a state of the rules is one with which the site can begin.
use Rattle.std.proofs.Common.{◌≡◌, ◌≢◌, ℕ, ◌*◌, ◌^◌, ◌<◌, ◌≤◌, Bool, true, false, not, ◌&&◌, ◌||◌, List, [], ◌∷◌, ◌++◌, length, map, cond, ◌==◌, if◌then◌else◌, refl, sym, ap, ◌∙◌, subst, inl, inr, arith}
use Rattle.std.specs.List.{AllByRecursion, filter}
use Rattle.std.proofs.lemmas.Bool.{and_parts, cases_Bool, cases_eq, eq-eqb, eqb-true, ne_eqb, or_cases, true≢false}
use Rattle.cmh_runs.specs.Number.{IsNumber}
use Rattle.cmh_model3.specs.Laws.{JournalFacts}
use Rattle.cmh_model3.specs.Lists.{in_list, is_nonempty}
use Rattle.cmh_model3.specs.Rules.{most_waits}
use Rattle.cmh_model3.specs.State.{State, is_blocked}
use Rattle.cmh_topology3.specs.Topology.{IsWellFormed, Topology, site_of}
use Rattle.cmh_wire3.specs.Wire.{IsLong}
use Rattle.cmh_segment3.specs.Base.{IsBase, IsStampedPairRow}
use Rattle.cmh_segment3.specs.States.{BeginsEpoch, all_numbers, base_of, beside, pairs_where, stamp_at, stamp_of, stamped_pairs, stamped_where, state_in, turned_to}
use Rattle.cmh_segment3.specs.WholeEntries.{IsWithin}
use Rattle.cmh_segment3.specs.declared.base.Base.{Base}
use Rattle.cmh_segment3.specs.declared.links.LinkState.{LinkState}
use Rattle.cmh_segment3.specs.declared.rows.Pair.{Pair}
use Rattle.cmh_segment3.specs.declared.rows.Stamped.{Stamped}
use Rattle.cmh_segment3.specs.declared.rows.StampedPair.{StampedPair}
use Rattle.cmh_segment3.proofs.States.{state_comes_back}
use Rattle.cmh_segment3.proofs.Turns.{NamesProcesses, Reached, reached, turned}
use Rattle.cmh_bases3.specs.Bases.{IsBaseOf}
use Rattle.cmh_bases3.specs.Laws.{BasesAreStates, BasesFollow, NamesKnown, NothingIsBase, StatesHaveBases, state_at_end}
use Rattle.cmh_bases3.proofs.Lawful.{pair_says, weaker, within}

-- ---- what holds of all rows

all_joined : {X : Type 0} (P : X → Type 0) (xs ys : List X) → AllByRecursion P xs → AllByRecursion P ys → AllByRecursion P (xs ++ ys)
all_joined P [] ys all more = more
all_joined P (x ∷ xs) ys all more = (all.0, all_joined P xs ys all.1 more)

all_mapped : {X : Type 0} (P : X → Type 0) (f : ℕ → X) (ks : List ℕ) → ((k : ℕ) → in_list ks k ≡ true → P (f k)) → AllByRecursion P (map f ks)
all_mapped P f [] each = tt
all_mapped P f (k ∷ ks) each = (each k (ap (λ z. z || in_list ks k) (eq-eqb k k refl)), all_mapped P f ks (λ q h. each q (ap (λ z. (k == q) || z) h ∙ or_yes (k == q))))
  where
    or_yes : (z : Bool) → (z || true) ≡ true
    or_yes true = refl
    or_yes false = refl

-- what is left passes the test
passes : (p : ℕ → Bool) (ks : List ℕ) (k : ℕ) → in_list (filter p ks) k ≡ true → p k ≡ true
passes p [] k h = absurd (true≢false (sym h))
passes p (q ∷ ks) k h = go (p q) refl h (passes p ks k)
  where
    go : (z : Bool) → p q ≡ z → in_list (cond z (q ∷ filter p ks) (filter p ks)) k ≡ true → (in_list (filter p ks) k ≡ true → p k ≡ true) → p k ≡ true
    go true e h later = elim (or_cases (q == k) (in_list (filter p ks) k) h) [
      | inl here ↦ ap p (sym (eqb-true q k here)) ∙ e
      | inr there ↦ later there
    ]
    go false e h later = later h

module _ (P : StampedPair → Type 0) (seconds : ℕ → List ℕ) (stamp : ℕ → ℕ → ℕ) (each : (a b : ℕ) → in_list (seconds a) b ≡ true → P (record { first = a; second = b; stamp = stamp a b })) where
  all_stamped_pairs : (firsts : List ℕ) → AllByRecursion P (stamped_pairs seconds stamp firsts)
  all_stamped_pairs [] = tt
  all_stamped_pairs (a ∷ firsts) = all_joined P _ (stamped_pairs seconds stamp firsts) (all_mapped P (λ b. record { first = a; second = b; stamp = stamp a b }) (seconds a) (each a)) (all_stamped_pairs firsts)

module _ (P : Pair → Type 0) (test : ℕ → ℕ → Bool) (seconds : List ℕ) (each : (a b : ℕ) → test a b ≡ true → P (record { first = a; second = b })) where
  all_pairs : (firsts : List ℕ) → AllByRecursion P (pairs_where test seconds firsts)
  all_pairs [] = tt
  all_pairs (a ∷ firsts) =
      all_joined P _ (pairs_where test seconds firsts) (all_mapped P (λ b. record { first = a; second = b }) (filter (test a) seconds) (λ b h. each a b (passes (test a) seconds b h))) (all_pairs firsts)

all_stamped : (P : Stamped → Type 0) (test : ℕ → Bool) (stamp : ℕ → ℕ) (ps : List ℕ) → ((p : ℕ) → test p ≡ true → P (record { process = p; stamp = stamp p })) → AllByRecursion P (stamped_where test stamp ps)
all_stamped P test stamp ps each = all_mapped P (λ p. record { process = p; stamp = stamp p }) (filter test ps) (λ p h. each p (passes test ps p h))

not_zero : (n : ℕ) → not (n == 0) ≡ true → n ≢ 0
not_zero n h e = true≢false (sym h ∙ ap not (eq-eqb n 0 e))

-- ---- a base names what it should

stamp_says : (P : ℕ → Type 0) (rows : List Stamped) → AllByRecursion (λ (row : Stamped). P row.process) rows → (a : ℕ) → stamp_of rows a ≢ 0 → P a
stamp_says P [] all a some = absurd (some refl)
stamp_says P (r ∷ rows) all a some = elim (cases_eq r.process a) [
  | inl e ↦ subst P e all.0
  | inr n ↦ stamp_says P rows all.1 a (λ none. some (ap (λ z. if z then r.stamp else stamp_of rows a) (ne_eqb r.process a n) ∙ none))
]

mark_says : (P : ℕ → Type 0) (rows : List StampedPair) → AllByRecursion (λ (row : StampedPair). P row.second) rows → (a b : ℕ) → stamp_at rows a b ≢ 0 → P b
mark_says P [] all a b some = absurd (some refl)
mark_says P (r ∷ rows) all a b some = elim (cases_Bool ((r.first == a) && (r.second == b))) [
  | inl hit ↦ subst P (eqb-true r.second b (and_parts (r.first == a) (r.second == b) hit).1) all.0
  | inr miss ↦ mark_says P rows all.1 a b (λ none. some (ap (λ z. if z then r.stamp else stamp_at rows a b) miss ∙ none))
]

names : (t : Topology) (s epoch : ℕ) (base : Base) → IsBase base → IsBaseOf t s epoch base → NamesProcesses (site_of t) s (state_in epoch base)
names t s epoch base are is = record {
  leaving = λ j k h. (pair_says (λ a b. (site_of t a ≡ s) × (site_of t b ≢ 0) × (site_of t b ≢ s)) base.leaving is.leaving j k h).1;
  origins = mark_says IsNumber base.dependents (weaker IsStampedPairRow (λ (row : StampedPair). IsNumber row.second) base.dependents (λ row one. one.1) are.dependents.each);
  asked = stamp_says (λ p. site_of t p ≡ s) base.stamps (weaker (λ (row : Stamped). (site_of t row.process ≡ s) × (row.stamp ≤ epoch * 2 ^ 32)) (λ (row : Stamped). site_of t row.process ≡ s) base.stamps (λ row one. one.0) is.stamps);
}

-- ---- the base of a state that a journal reached

module _ (t : Topology) (s epoch : ℕ) (v : State) (stop : ℕ → ℕ) (links : List LinkState) (held : IsWithin (site_of t) s v) (known : NamesKnown (site_of t) s v) (begins : BeginsEpoch epoch v) where
  abbrev base : Base
  base = base_of v stop links

  back : state_in epoch base ≡ v
  back = state_comes_back epoch v stop links begins

  waits_back : (j : ℕ) → beside j base.waits ≡ v.waits j
  waits_back j = ap (λ (u : State). u.waits j) back

  -- a blocked process has a wait in the base
  has_wait : (k : ℕ) → (is_blocked v k ≡ false → ⊥) → is_nonempty (beside k base.waits) ≡ true
  has_wait k blocked = elim (cases_Bool (is_blocked v k)) [
    | inl some ↦ ap is_nonempty (waits_back k) ∙ some
    | inr none ↦ absurd (blocked none)
  ]

  pub is_base : IsBaseOf t s epoch base
  is_base = record {
    stamps = all_stamped _ (λ j. not (v.stamp j == 0)) v.stamp all_numbers (λ j h. (known.asked j (not_zero (v.stamp j) h), let low = (held.facts.stamps j j).1 in let clock = begins.clock in omega (arith, low, clock)));
    waits = (
      all_stamped_pairs _ v.waits v.since (λ a b h.
          let at = held.facts.waits_home a b h in
          let since = (held.facts.stamps a b).0 in
          let same : stamp_of base.stamps a ≡ v.stamp a = ap (λ (u : State). u.stamp a) back in
          (at.0, at.1, at.2, omega (arith, since, same))) all_numbers,
      λ j. subst (λ (ks : List ℕ). length ks ≤ most_waits) (sym (waits_back j)) (held.facts.few_waits j),
    );
    leaving = all_pairs _ v.leaving all_numbers (λ a b h. let away = held.facts.leaving_away a b h in (away.0, known.leaving a b h, away.1)) all_numbers;
    owed = all_pairs _ v.owed all_numbers (λ k j h.
        let at = held.facts.owed_home k j h in
        (at, held.askers k j h, λ here. ap (λ ks. in_list ks k) (waits_back j) ∙ held.facts.local j k here at ∙ h)) all_numbers;
    replies = all_stamped_pairs _ v.waits v.since (λ a b h here.
        ap (λ (u : State). u.owed b a) back ∙ sym (held.facts.local a b (held.facts.waits_home a b h).0 here) ∙ h) all_numbers;
    marks = all_stamped_pairs _ (λ k. filter (λ i. not (v.marks k i == 0)) all_numbers) v.marks (λ k i h.
        has_wait k (λ active. not_zero (v.marks k i) (passes (λ i. not (v.marks k i == 0)) all_numbers i h) (held.facts.no_marks k i active))) all_numbers;
    declared = all_stamped _ v.declared stop all_numbers (λ i h. has_wait i (λ active. true≢false (sym h ∙ held.facts.undeclared i active)));
  }

-- what holds of a state holds of it when its clock was set forward to an epoch
turned_facts : (home : ℕ → ℕ) (s epoch : ℕ) (v : State) → JournalFacts home s v → v.clock ≤ epoch * 2 ^ 32 → JournalFacts home s (turned_to epoch v)
turned_facts home s epoch v f ahead = record {
  waits_home = f.waits_home;
  waits_ascend = f.waits_ascend;
  few_waits = f.few_waits;
  no_stamp = f.no_stamp;
  stamps = λ j k. ((f.stamps j k).0, let low = (f.stamps j k).1 in omega (arith, low, ahead));
  no_marks = f.no_marks;
  undeclared = f.undeclared;
  owed_home = f.owed_home;
  leaving_away = f.leaving_away;
  local = f.local;
}

pub states_have_bases : (t : Topology) → StatesHaveBases t
states_have_bases t s epoch v stop links within names begins = is_base t s epoch v stop links within names begins

pub nothing_is : (t : Topology) → NothingIsBase t
nothing_is t s epoch = record { stamps = tt; waits = (tt, λ j. omega arith); leaving = tt; owed = tt; replies = tt; marks = tt; declared = tt }

long : (epoch : ℕ) → epoch < 2 ^ 32 → IsLong (epoch * 2 ^ 32)
long epoch few = omega (arith, few)

pub bases_are_states : (t : Topology) → BasesAreStates t
bases_are_states t s epoch base few are is = within t s epoch base are is (long epoch few)

pub bases_follow : (t : Topology) → IsWellFormed t → BasesFollow t
bases_follow t formed s epoch next base steps stop links site few more are is lawful have ahead =
    let v : State = state_at_end t s epoch base steps in
    let r : Reached t formed s site v = reached t formed s site (state_in epoch base) steps (record { within = within t s epoch base are is (long epoch few); names = names t s epoch base are is }) lawful have in
    is_base t s next (turned_to next v) stop links
    (record { facts = turned_facts (site_of t) s next v r.within.facts ahead; askers = r.within.askers; clock = long next more })
    (record { leaving = r.names.leaving; asked = r.names.asked })
    (turned t formed s site next v r)
