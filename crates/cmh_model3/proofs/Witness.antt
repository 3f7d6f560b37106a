-- A run with a deadlock over two sites.
use Rattle.std.proofs.Common.{◌≡◌, ◌≢◌, ℕ, true, false, not, ◌||◌, List, [], ◌∷◌, ◌++◌, ◌==◌, if◌then◌else◌, refl, sym, ap, ◌∙◌, subst, inl, inr, None, Some, true≢false, arith}
use Rattle.std.proofs.lemmas.Bool.{cases_eq, eqb-true, eq-eqb, ne_eqb, and_parts, or_cases}
use Rattle.cmh_model3.specs.declared.frame.Frame.{Frame}
use Rattle.cmh_model3.specs.declared.frame.Frame.TheVariants.{Request, Probe}
use Rattle.cmh_model3.specs.declared.frame.Message.{Message}
use Rattle.cmh_model3.specs.declared.event.Event.TheVariants.{Ask, Got}
use Rattle.cmh_model3.specs.Lists.{in_list, is_before}
use Rattle.cmh_model3.specs.Entries.{WorldEvent}
use Rattle.cmh_model3.specs.State.{State, waits_for, counts, empty_state}
use Rattle.cmh_model3.specs.Paths.{IsLocalPath}
use Rattle.cmh_model3.specs.Rules.{changed, message, AreProbes, IsEdge}
use Rattle.cmh_model3.specs.Journals.{message_from}
use Rattle.cmh_model3.specs.Runs.{under_way, state_of, IsRun}
use Rattle.cmh_model3.specs.Laws.{DeadlockHappens, entry_at}
use Rattle.cmh_model3.proofs.Extends.{extends_run, nothing_is_run}
use Rattle.cmh_model3.proofs.Pairs.{In}
use Rattle.cmh_model3.proofs.Sorting.{contains_in, in_contains, sorted_one}

abbrev own : ℕ → ℕ
own x = x

-- each process has a site of its own: no path within a site
alone : (v : State) (m i p : ℕ) (xs : List ℕ) (q : ℕ) → waits_for v p p ≡ false → IsLocalPath own p v m i p xs q → p ≡ q
alone v m i p [] q h path = path
alone v m i p (x ∷ xs) q h path =
    let w = (and_parts (waits_for v p x) (not (is_before m i (v.since p x) p)) path.0).0 in
    absurd (true≢false (sym (subst (λ z. waits_for v p z ≡ true) path.1 w) ∙ h))

one_probe : (v : State) (c i m p k : ℕ) → v.waits p ≡ k ∷ [] → k ≢ p → counts v m i p k ≡ true → AreProbes own p v c i m p ((k, record { clock = c; frame = Probe i m p k }) ∷ [])
one_probe v c i m p k w far cnt = record {
  edges = (p, k) ∷ [];
  ascending = sorted_one (p, k);
  all = λ edge. (
    λ h. is_edge edge (contains_in edge ((p, k) ∷ []) h),
    λ h.
        let none : waits_for v p p ≡ false = ap (λ l. in_list l p) w ∙ ap (λ z. z || false) (ne_eqb k p far) in
        let is_p : p ≡ edge.0 = alone v m i p h.0.0 edge.0 none h.0.1 in
        let waits = (and_parts (waits_for v edge.0 edge.1) (not (is_before m i (v.since edge.0 edge.1) edge.0)) h.1).0 in
        let listed : in_list (k ∷ []) edge.1 ≡ true = sym (ap (λ l. in_list l edge.1) w) ∙ subst (λ z. waits_for v z edge.1 ≡ true) (sym is_p) waits in
        let is_k : k ≡ edge.1 = elim (or_cases (k == edge.1) false listed) [ inl e ↦ eqb-true k edge.1 e | inr z ↦ absurd (true≢false (sym z)) ] in
        in_contains edge ((p, k) ∷ []) (inl (λ t. (is_p t, is_k t))),
  );
  are = refl;
}
  where
    is_edge : (edge : ℕ × ℕ) → In edge ((p, k) ∷ []) → IsEdge own p v m i p edge
    is_edge edge (inl e) = subst (IsEdge own p v m i p) e (([], refl), cnt, far)
    is_edge edge (inr h) = absurd h

-- the next message of a link
next_is : (s from c : ℕ) (f : Frame) (events : List WorldEvent) (behind : List Message) → under_way from s events ≡ record { clock = c; frame = f } ∷ behind
    → (a : ℕ) → (rest : List Message) × (under_way a s events ≡ message_from a (Got from c f) ++ rest)
next_is s from c f events behind h a = elim (cases_eq from a) [
  | inl e ↦ (behind, ap (λ z. under_way z s events) (sym e) ∙ h ∙ ap (λ z. (if z then record { clock = c; frame = f } ∷ [] else []) ++ behind) (sym (eq-eqb from a e)))
  | inr n ↦ (under_way a s events, ap (λ z. (if z then record { clock = c; frame = f } ∷ [] else []) ++ under_way a s events) (sym (ne_eqb from a n)))
]

abbrev e1 : WorldEvent
e1 = entry_at 1 (Ask 1 (2 ∷ [])) ((2, message 1 (Request 1 2)) ∷ (2, message 1 (Probe 1 1 1 2)) ∷ []) None

abbrev e2 : WorldEvent
e2 = entry_at 2 (Ask 2 (1 ∷ [])) ((1, message 1 (Request 2 1)) ∷ (1, message 1 (Probe 2 1 2 1)) ∷ []) None

abbrev e3 : WorldEvent
e3 = entry_at 1 (Got 2 1 (Request 2 1)) [] None

abbrev e4 : WorldEvent
e4 = entry_at 1 (Got 2 1 (Probe 2 1 2 1)) ((2, message 1 (Probe 2 1 1 2)) ∷ []) None

abbrev e5 : WorldEvent
e5 = entry_at 2 (Got 1 1 (Request 1 2)) [] None

abbrev e6 : WorldEvent
e6 = entry_at 2 (Got 1 1 (Probe 1 1 1 2)) [] None

abbrev e7 : WorldEvent
e7 = entry_at 2 (Got 1 1 (Probe 2 1 1 2)) [] (Some 2)

one_two : ◌≢◌ {A = ℕ} 1 2
one_two h = absurd (omega (arith, h))

two_one : ◌≢◌ {A = ℕ} 2 1
two_one h = absurd (omega (arith, h))

r0 : IsRun own []
r0 = nothing_is_run own

targets : (v : State) (j k : ℕ) → k ≢ 0 → k ≢ j → v.leaving j k ≡ false → waits_for v j k ≡ false → (q : ℕ) → in_list (k ∷ []) q ≡ true → (q ≢ j) × (v.leaving j q ≡ false) × (waits_for v j q ≡ false) × (q ≢ 0)
targets v j k known far l w q h =
    let is_k : k ≡ q = elim (or_cases (k == q) false h) [ inl e ↦ eqb-true k q e | inr z ↦ absurd (true≢false (sym z)) ] in
    subst (λ z. (z ≢ j) × (v.leaving j z ≡ false) × (waits_for v j z ≡ false) × (z ≢ 0)) is_k (far, l, w, known)

not_self : (v : State) (m p : ℕ) → waits_for v p p ≡ false → ((next : ℕ) × (members : List ℕ) × IsLocalPath own p v m p p (next ∷ members) p) → ⊥
not_self v m p h d =
    let w = (and_parts (waits_for v p d.0) (not (is_before m p (v.since p d.0) p)) d.2.0).0 in
    true≢false (sym (subst (λ z. waits_for v p z ≡ true) d.2.1 w) ∙ h)

r1 : IsRun own (e1 ∷ [])
r1 = extends_run own [] e1 r0 (refl, refl, ((tt, tt), targets empty_state 1 2 (λ h. absurd (omega (arith, h))) two_one refl refl), omega arith, omega arith)
    ((2, message 1 (Probe 1 1 1 2)) ∷ [], refl, inr (not_self (changed own 1 empty_state (Ask 1 (2 ∷ []))) 1 1 refl, one_probe (changed own 1 empty_state (Ask 1 (2 ∷ []))) 1 1 1 1 2 refl two_one refl, refl))
    (λ a. (under_way a 1 [], refl))

r2 : IsRun own (e1 ∷ e2 ∷ [])
r2 = extends_run own (e1 ∷ []) e2 r1 (refl, refl, ((tt, tt), targets empty_state 2 1 (λ h. absurd (omega (arith, h))) one_two refl refl), omega arith, omega arith)
    ((1, message 1 (Probe 2 1 2 1)) ∷ [], refl, inr (not_self (changed own 2 empty_state (Ask 2 (1 ∷ []))) 1 2 refl, one_probe (changed own 2 empty_state (Ask 2 (1 ∷ []))) 1 2 1 2 1 refl one_two refl, refl))
    (λ a. (under_way a 2 (e1 ∷ []), refl))

r3 : IsRun own (e1 ∷ e2 ∷ e3 ∷ [])
r3 = extends_run own (e1 ∷ e2 ∷ []) e3 r2 (two_one, refl, refl, refl) (refl, refl) (next_is 1 2 1 (Request 2 1) (e1 ∷ e2 ∷ []) (message 1 (Probe 2 1 2 1) ∷ []) refl)

r4 : IsRun own (e1 ∷ e2 ∷ e3 ∷ e4 ∷ [])
r4 = extends_run own (e1 ∷ e2 ∷ e3 ∷ []) e4 r3 (two_one, refl, refl)
    (inr ((λ d. one_two (alone (state_of own 1 (e1 ∷ e2 ∷ e3 ∷ [])) 1 2 1 d.0.0 2 refl d.0.1)), one_probe (state_of own 1 (e1 ∷ e2 ∷ e3 ∷ [])) 1 2 1 1 2 refl two_one refl, refl))
    (next_is 1 2 1 (Probe 2 1 2 1) (e1 ∷ e2 ∷ e3 ∷ []) [] refl)

r5 : IsRun own (e1 ∷ e2 ∷ e3 ∷ e4 ∷ e5 ∷ [])
r5 = extends_run own (e1 ∷ e2 ∷ e3 ∷ e4 ∷ []) e5 r4 (one_two, refl, refl, refl) (refl, refl) (next_is 2 1 1 (Request 1 2) (e1 ∷ e2 ∷ e3 ∷ e4 ∷ []) (message 1 (Probe 1 1 1 2) ∷ message 1 (Probe 2 1 1 2) ∷ []) refl)

r6 : IsRun own (e1 ∷ e2 ∷ e3 ∷ e4 ∷ e5 ∷ e6 ∷ [])
r6 = extends_run own (e1 ∷ e2 ∷ e3 ∷ e4 ∷ e5 ∷ []) e6 r5 (one_two, refl, refl) (refl, refl) (next_is 2 1 1 (Probe 1 1 1 2) (e1 ∷ e2 ∷ e3 ∷ e4 ∷ e5 ∷ []) (message 1 (Probe 2 1 1 2) ∷ []) refl)

r7 : IsRun own (e1 ∷ e2 ∷ e3 ∷ e4 ∷ e5 ∷ e6 ∷ e7 ∷ [])
r7 = extends_run own (e1 ∷ e2 ∷ e3 ∷ e4 ∷ e5 ∷ e6 ∷ []) e7 r6 (one_two, refl, refl) (inl ((([], refl), refl), refl, refl)) (next_is 2 1 1 (Probe 2 1 1 2) (e1 ∷ e2 ∷ e3 ∷ e4 ∷ e5 ∷ e6 ∷ []) [] refl)

pub deadlock_happens : DeadlockHappens
deadlock_happens = (own, (e1 ∷ e2 ∷ e3 ∷ e4 ∷ e5 ∷ e6 ∷ []), e7, r7, one_two, refl)
