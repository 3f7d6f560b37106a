-- What holds of the state of a lawful journal.
use Rattle.std.proofs.Common.{◌≡◌, ◌⊎◌, ℕ, Bool, true, false, not, ◌&&◌, List, [], ◌∷◌, ◌==◌, if◌then◌else◌, sym, ap, ◌∙◌, subst, inl, inr, true≢false, Option, arith}
use Rattle.std.specs.List.{list_any}
use Rattle.std.proofs.lemmas.Bool.{eq-eqb, and_parts, and_from, or_cases, cases_eq, cases_Bool}
use Rattle.cmh_frames.proofs.Choices.{and_yes}
use Rattle.cmh_frames.specs.declared.frame.Frame.TheVariants.{Request, Reply as Reply_frame, Probe}
use Rattle.cmh_frames.specs.declared.event.Event.{Event}
use Rattle.cmh_frames.specs.declared.event.Event.TheVariants.{Ask, Reply, Start, Got}
use Rattle.cmh_frames.specs.Entries.{Entry}
use Rattle.cmh_frames.specs.Edition.{target_limit}
use Rattle.cmh_frames.specs.Topology.{Topology, At, is_at}
use Rattle.cmh_frames.specs.Relation.{Relation, IsNarrow, has, has_some, with_pair, without_pair, with_each}
use Rattle.cmh_frames.specs.State.{State, empty_state, is_blocked}
use Rattle.cmh_frames.specs.Rules.{Accepts, after, owed_after_ask}
use Rattle.cmh_frames.specs.Journals.{LawfulFrom, state_after, IsLawful, value}
use Rattle.cmh_frames.specs.Waits.{asks_for, grants}
use Rattle.cmh_frames.specs.Laws.{bit, count_of, is_request, is_reply, JournalFacts}
use Rattle.cmh_frames.proofs.Pairs.{has-empty, has-with_each, has-with_each_other, has-without, has-with_other}
use Rattle.cmh_frames.proofs.Places.{at_from-is_at, is_at-yes}
use Rattle.cmh_frames.proofs.Moves.{both_or_not, both_yes, reply_waits, reply_owed, probe_waits, probe_owed, waits_move, owed_move}
use Rattle.cmh_frames.proofs.Effects.{asks_means, grants_means, none_from_own, dependents_after}
use Rattle.cmh_frames.proofs.Bits.{bit_zero, bit_one}
use Rattle.cmh_frames.proofs.Narrow.{narrow_first, narrow_after}

-- what a smaller relation has the greater one had
pub without_old : (r : Relation) (a b x y : ℕ) → has (without_pair r a b) x y ≡ true → has r x y ≡ true
without_old r a b x y h = (and_parts (not ((x == a) && (y == b))) (has r x y) (sym (has-without r a b x y) ∙ h)).1

-- a wait was there before or begins
waits_means : (t : Topology) (s : ℕ) (v : State) (ev : Event) (d : Option ℕ) (j k : ℕ) → has (after t s v ev d).waits j k ≡ true → (has v.waits j k ≡ true) ⊎ (asks_for j k ev ≡ true)
waits_means t s v (Ask asker targets) d j k h = elim (cases_eq j asker) [
  | inr n ↦ inl (sym (has-with_each_other v.waits asker targets j k n) ∙ h)
  | inl e ↦ elim (or_cases (list_any (λ q. q == k) targets) (has v.waits asker k) (sym (has-with_each v.waits asker targets k) ∙ ap (λ x. has (with_each v.waits asker targets) x k) (sym e) ∙ h)) [
    | inl in' ↦ inr (and_from (asker == j) (list_any (λ q. q == k) targets) (eq-eqb asker j (sym e)) in')
    | inr old ↦ inl (ap (λ x. has v.waits x k) e ∙ old)
  ]
]
waits_means t s v (Reply holder asker) d j k h = inl (elim (cases_Bool (is_at t asker s)) [
  | inl z ↦ without_old v.waits asker holder j k (sym (ap (λ r. has r j k) (reply_waits t s v holder asker d ∙ ap (λ c. if c then without_pair v.waits asker holder else v.waits) z)) ∙ h)
  | inr z ↦ sym (ap (λ r. has r j k) (reply_waits t s v holder asker d ∙ ap (λ c. if c then without_pair v.waits asker holder else v.waits) z)) ∙ h
])
waits_means t s v (Start i) d j k h = inl h
waits_means t s v (Got a (Request (x, y))) d j k h = inl h
waits_means t s v (Got a (Reply_frame (holder, asker))) d j k h = inl (without_old v.waits asker holder j k h)
waits_means t s v (Got a (Probe (o, f, g))) d j k h = inl (sym (ap (λ r. has r j k) (probe_waits t s v a o f g d)) ∙ h)

-- what is owed after an ask was owed before, or is owed by a target at the site to the asker
owed_by_ask : (t : Topology) (s : ℕ) (r : Relation) (asker : ℕ) (ks : List ℕ) (k j : ℕ) → has (owed_after_ask (λ p. is_at t p s) r asker ks) k j ≡ true → (has r k j ≡ true) ⊎ (At t k s × (asker ≡ j))
owed_by_ask t s r asker [] k j h = inl h
owed_by_ask t s r asker (q ∷ ks) k j h = elim (cases_Bool (is_at t q s)) [
  | inl z ↦
      let new : has (with_pair (owed_after_ask (λ p. is_at t p s) r asker ks) q asker) k j ≡ true = sym (ap (λ c. has (if c then with_pair (owed_after_ask (λ p. is_at t p s) r asker ks) q asker else owed_after_ask (λ p. is_at t p s) r asker ks) k j) z) ∙ h in
      elim (both_or_not q asker k j) [
        | inl e ↦ inr (subst (λ x. At t x s) e.0 (at_from-is_at t q s z), e.1)
        | inr other ↦ owed_by_ask t s r asker ks k j (sym (has-with_other (owed_after_ask (λ p. is_at t p s) r asker ks) q asker k j (λ p. true≢false (sym (both_yes q asker k j (sym p.0) (sym p.1)) ∙ other))) ∙ new)
      ]
  | inr z ↦ owed_by_ask t s r asker ks k j (sym (ap (λ c. has (if c then with_pair (owed_after_ask (λ p. is_at t p s) r asker ks) q asker else owed_after_ask (λ p. is_at t p s) r asker ks) k j) z) ∙ h)
]

-- what is owed was owed before, or is of a process of the site to a known one
owed_means : (t : Topology) (s : ℕ) (v : State) (ev : Event) (d : Option ℕ) (k j : ℕ) → Accepts t s v ev → has (after t s v ev d).owed k j ≡ true → (has v.owed k j ≡ true) ⊎ (At t k s × ((a : ℕ) × At t j a))
owed_means t s v (Ask asker targets) d k j acc h = elim (owed_by_ask t s v.owed asker targets k j h) [
  | inl old ↦ inl old
  | inr new ↦ inr (new.0, (s, subst (λ x. At t x s) new.1 acc.0))
]
owed_means t s v (Reply holder asker) d k j acc h = inl (without_old v.owed holder asker k j (sym (ap (λ r. has r k j) (reply_owed t s v holder asker d)) ∙ h))
owed_means t s v (Start i) d k j acc h = inl h
owed_means t s v (Got a (Request (asker, holder))) d k j acc h = elim (both_or_not holder asker k j) [
  | inl e ↦ inr (subst (λ x. At t x s) e.0 acc.2, (a, subst (λ x. At t x a) e.1 acc.1))
  | inr other ↦ inl (sym (has-with_other v.owed holder asker k j (λ p. true≢false (sym (both_yes holder asker k j (sym p.0) (sym p.1)) ∙ other))) ∙ h)
]
owed_means t s v (Got a (Reply_frame (x, y))) d k j acc h = inl h
owed_means t s v (Got a (Probe (o, f, g))) d k j acc h = inl (sym (ap (λ r. has r k j) (probe_owed t s v a o f g d)) ∙ h)

-- equal bits are of equal truth values
same_bit : (x y : Bool) → bit x ≡ bit y → x ≡ y
same_bit true y h = sym (bit_one y 0 (sym h))
same_bit false y h = sym (bit_zero y (sym h))

-- after an accepted event no process waits for more than an ask may name, where none did
pub stays_narrow : (t : Topology) (s : ℕ) (v : State) (ev : Event) (d : Option ℕ) → Accepts t s v ev → IsNarrow (target_limit t.edition) v.waits → IsNarrow (target_limit t.edition) (after t s v ev d).waits
stays_narrow t s v ev d acc old = narrow_after t s v ev (after t s v ev d).waits acc (waits_means t s v ev d) old

-- an accepted event keeps it
facts_after : (t : Topology) (s : ℕ) (v : State) (ev : Event) (d : Option ℕ) → Accepts t s v ev → JournalFacts t s v → JournalFacts t s (after t s v ev d)
facts_after t s v ev d acc old = record {
  waits_home = λ j k h. elim (waits_means t s v ev d j k h) [
    | inl was ↦ old.waits_home j k was
    | inr asks ↦ let means = asks_means t s v ev j k acc asks in (means.0, means.2)
  ];
  owed_home = λ k j h. elim (owed_means t s v ev d k j acc h) [ inl was ↦ old.owed_home k j was | inr new ↦ new ];
  dependents_blocked = λ k i h. elim (dependents_after t s v ev d k i h) [
    | inl was ↦ let before = old.dependents_blocked k i was.0 in (before.0, was.1 before.1)
    | inr new ↦
        let got = subst (Accepts t s v) new.2 acc in
        let blocked = and_parts (is_blocked v k) (not (has v.dependents k i) && has v.owed k new.1) new.3 in
        (got.2, ap (λ e. is_blocked (after t s v e d) k) new.2 ∙ ap (λ r. has_some r k) (probe_waits t s v new.0 i new.1 k d) ∙ blocked.0)
  ];
  local = λ j k at_j at_k.
      let was = ap bit (old.local j k at_j at_k) in
      let f1 = ap (count_of (is_request j k)) (none_from_own t s v ev acc) in
      let f2 = ap (count_of (is_reply k j)) (none_from_own t s v ev acc) in
      let waits = waits_move t s v ev d j k s acc at_j at_k (λ g. old.local j k at_j at_k ∙ (grants_means t s v ev j k acc g).2) in
      let owed = owed_move t s v ev d j k s acc at_k at_j (λ q. sym (old.local j k at_j at_k) ∙ (asks_means t s v ev j k acc q).1) in
      let here = ap bit (and_yes (grants k j ev) (is_at t k s) (is_at-yes t k s at_k)) in
      let there = ap bit (and_yes (asks_for j k ev) (is_at t j s) (is_at-yes t j s at_j)) in
      same_bit _ _ (omega arith);
  narrow = stays_narrow t s v ev d acc old.narrow;
}

-- it holds of the empty state
facts_first : (t : Topology) (s : ℕ) → JournalFacts t s empty_state
facts_first t s = record {
  waits_home = λ j k h. absurd (true≢false (sym h ∙ has-empty j k));
  owed_home = λ k j h. absurd (true≢false (sym h ∙ has-empty k j));
  dependents_blocked = λ k i h. absurd (true≢false (sym h ∙ has-empty k i));
  local = λ j k at_j at_k. has-empty j k ∙ sym (has-empty k j);
  narrow = narrow_first (target_limit t.edition);
}

-- a lawful journal keeps it
facts_on : (t : Topology) (s : ℕ) (v : State) (journal : List Entry) → LawfulFrom t s v journal → JournalFacts t s v → JournalFacts t s (state_after t s v journal)
facts_on t s v [] lawful old = old
facts_on t s v (e ∷ es) lawful old = facts_on t s (after t s v e.event e.declared) es lawful.2 (facts_after t s v e.event e.declared lawful.0 old)

-- it holds of the state of each lawful journal
pub lawful_states : (t : Topology) (s : ℕ) (journal : List Entry) → IsLawful t s journal → JournalFacts t s (value t s journal)
lawful_states t s journal lawful = facts_on t s empty_state journal lawful (facts_first t s)
