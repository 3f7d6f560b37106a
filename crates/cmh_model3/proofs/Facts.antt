-- What holds of the state of a lawful journal.
use Rattle.std.proofs.Common.{◌≡◌, ◌≢◌, ℕ, ◌+◌, ◌≤◌, max, Bool, true, false, not, ◌&&◌, ◌||◌, List, [], ◌∷◌, length, ◌==◌, if◌then◌else◌, Option, None, Some, MatchBool, refl, sym, ap, ◌∙◌, inl, inr, arith}
use Rattle.std.proofs.Math.Path.{fun_ext}
use Rattle.std.proofs.lemmas.Bool.{cases_Bool, cases_eq, eqb-true, eq-eqb, ne_eqb, and_parts, or_cases, false_from_ne_true, true≢false}
use Rattle.cmh_model3.specs.declared.frame.Frame.TheVariants.{Request, Reply as Reply_frame, Withdraw as Withdraw_frame, Probe}
use Rattle.cmh_model3.specs.declared.frame.Message.{Message}
use Rattle.cmh_model3.specs.declared.event.Event.{Event}
use Rattle.cmh_model3.specs.declared.event.Event.TheVariants.{Ask, Reply, Withdraw, Got, Turn}
use Rattle.cmh_model3.specs.Lists.{IsAscending, in_list, is_nonempty, set_at, set_pair, with_each, without, without_all}
use Rattle.cmh_model3.specs.Entries.{Entry}
use Rattle.cmh_model3.specs.State.{State, empty_state, is_blocked, passes, waits_for, with_waits}
use Rattle.cmh_model3.specs.Paths.{ReachesLocally}
use Rattle.cmh_model3.specs.Rules.{Accepts, DeclaresOrProbes, Sends, after, changed, most_waits, newly, probe_acts, targets_away, targets_here}
use Rattle.cmh_model3.specs.Journals.{LawfulFrom, state_after}
use Rattle.cmh_model3.specs.Laws.{JournalFacts, LawfulStates}
use Rattle.cmh_model3.proofs.Ascending.{each_ascends, length_each, length_without, length_without_all, neither, without_all_ascends, without_ascends}
use Rattle.cmh_model3.proofs.Askers.{without_in}
use Rattle.cmh_model3.proofs.Counts.{in_minus, in_with}
use Rattle.cmh_model3.proofs.Marks.{in_some, passes_in, some_in}
use Rattle.cmh_model3.proofs.Moves.{got_probe, own_move, reply_leaving, reply_owed, got_reply_owed}
use Rattle.cmh_model3.proofs.Settled.{since_after, stamp_move}

either : {X : Type 0} (P : X → Type 0) (z : Bool) (a b : X) → P a → P b → P (if z then a else b)
either P true a b x y = x
either P false a b x y = y

-- what p forgets where it becomes active
forgotten : {X : Type 0} (waits : ℕ → List ℕ) (p : ℕ) (ks : List ℕ) (c : X) (r : ℕ → X) (k : ℕ) → (is_nonempty (waits k) ≡ false → r k ≡ c)
    → is_nonempty (if k == p then ks else waits k) ≡ false → (if is_nonempty ks then r else set_at r p c) k ≡ c
forgotten {X} waits p ks c r k old h = elim (cases_eq k p) [
  | inl e ↦
      let none : is_nonempty ks ≡ false = sym (ap (λ z. is_nonempty (if z then ks else waits k)) (eq-eqb k p e)) ∙ h in
      ap (λ z. (if z then r else set_at r p c) k) none ∙ ap (λ z. if z then c else r k) (eq-eqb k p e)
  | inr n ↦ go (is_nonempty ks) n (old (sym (ap (λ z. is_nonempty (if z then ks else waits k)) (ne_eqb k p n)) ∙ h))
]
  where
    go : (z : Bool) → k ≢ p → r k ≡ c → (if z then r else set_at r p c) k ≡ c
    go true n o = o
    go false n o = ap (λ z. if z then c else r k) (ne_eqb k p n) ∙ o

module _ (home : ℕ → ℕ) (s : ℕ) where
  -- of waits, and of what goes with them
  record WaitFacts (waits : ℕ → List ℕ) (since : ℕ → ℕ → ℕ) (marks : ℕ → ℕ → ℕ) (declared : ℕ → Bool) : Type 0 where
    places : (j k : ℕ) → in_list (waits j) k ≡ true → (home j ≡ s) × (home k ≢ 0) × (k ≢ j)
    ascend : (j : ℕ) → IsAscending (waits j)
    few : (j : ℕ) → length (waits j) ≤ most_waits
    no_stamp : (j k : ℕ) → in_list (waits j) k ≡ false → since j k ≡ 0
    no_marks : (k : ℕ) → is_nonempty (waits k) ≡ false → marks k ≡ (λ i. 0)
    undeclared : (k : ℕ) → is_nonempty (waits k) ≡ false → declared k ≡ false

  abbrev FactsOf : State → Type 0
  FactsOf v = WaitFacts v.waits v.since v.marks v.declared

  fewer : (u : State) (p : ℕ) (ks : List ℕ) → FactsOf u → IsAscending ks → length ks ≤ length (u.waits p) → ((k : ℕ) → in_list ks k ≡ true → in_list (u.waits p) k ≡ true) → FactsOf (with_waits u p ks)
  fewer u p ks f up short among = record {
    places = λ j k h. elim (cases_eq j p) [
      | inl e ↦ f.places j k (ap (λ q. in_list (u.waits q) k) e ∙ among k (sym (ap (λ z. in_list (if z then ks else u.waits j) k) (eq-eqb j p e)) ∙ h))
      | inr n ↦ f.places j k (sym (ap (λ z. in_list (if z then ks else u.waits j) k) (ne_eqb j p n)) ∙ h)
    ];
    ascend = λ j. either IsAscending (j == p) ks (u.waits j) up (f.ascend j);
    few = λ j. let most = f.few p in either (λ l. length l ≤ most_waits) (j == p) ks (u.waits j) (omega (arith, short, most)) (f.few j);
    no_stamp = λ j k h. elim (cases_eq j p) [
      | inl e ↦
          let out : in_list ks k ≡ false = sym (ap (λ z. in_list (if z then ks else u.waits j) k) (eq-eqb j p e)) ∙ h in
          ap (λ z. (if z then (λ q. if in_list ks q then u.since p q else 0) else u.since j) k) (eq-eqb j p e) ∙ ap (λ z. if z then u.since p k else 0) out
      | inr n ↦
          ap (λ z. (if z then (λ q. if in_list ks q then u.since p q else 0) else u.since j) k) (ne_eqb j p n)
          ∙ f.no_stamp j k (sym (ap (λ z. in_list (if z then ks else u.waits j) k) (ne_eqb j p n)) ∙ h)
    ];
    no_marks = λ k h. forgotten u.waits p ks (λ i. 0) u.marks k (f.no_marks k) h;
    undeclared = λ k h. forgotten u.waits p ks false u.declared k (f.undeclared k) h;
  }

  asked : (v : State) (j : ℕ) (ks : List ℕ) → FactsOf v → Accepts home s v (Ask j ks) → FactsOf (changed home s v (Ask j ks))
  asked v j ks f acc = record {
    places = λ a b h. elim (cases_eq a j) [
      | inl e ↦ elim (or_cases (in_list (v.waits j) b) (in_list ks b) (sym (ap (λ z. in_list (if z then with_each (v.waits j) ks else v.waits a) b) (eq-eqb a j e) ∙ in_with (v.waits j) ks b) ∙ h)) [
        | inl old ↦ f.places a b (ap (λ q. in_list (v.waits q) b) e ∙ old)
        | inr new ↦ let t = acc.2.1 b new in (ap home e ∙ acc.0, t.3, (λ q. t.0 (q ∙ e)))
      ]
      | inr n ↦ f.places a b (sym (ap (λ z. in_list (if z then with_each (v.waits j) ks else v.waits a) b) (ne_eqb a j n)) ∙ h)
    ];
    ascend = λ a. either IsAscending (a == j) (with_each (v.waits j) ks) (v.waits a) (each_ascends (v.waits j) ks (f.ascend j) acc.2.0 (λ k h. (acc.2.1 k h).2)) (f.ascend a);
    few = λ a.
        let e = length_each (v.waits j) ks in
        let l = acc.3 in
        either (λ l. length l ≤ most_waits) (a == j) (with_each (v.waits j) ks) (v.waits a) (omega (arith, e, l)) (f.few a);
    no_stamp = λ a b h. elim (cases_eq a j) [
      | inl e ↦
          let out = neither (in_list (v.waits j) b) (in_list ks b) (sym (ap (λ z. in_list (if z then with_each (v.waits j) ks else v.waits a) b) (eq-eqb a j e) ∙ in_with (v.waits j) ks b) ∙ h) in
          ap (λ z. if z then v.clock + 1 else v.since a b) (ap (λ z. z && in_list ks b) (eq-eqb a j e) ∙ out.1) ∙ f.no_stamp a b (ap (λ q. in_list (v.waits q) b) e ∙ out.0)
      | inr n ↦
          ap (λ z. if z && in_list ks b then v.clock + 1 else v.since a b) (ne_eqb a j n)
          ∙ f.no_stamp a b (sym (ap (λ z. in_list (if z then with_each (v.waits j) ks else v.waits a) b) (ne_eqb a j n)) ∙ h)
    ];
    no_marks = λ k h. f.no_marks k (was_active k h);
    undeclared = λ k h. elim (cases_eq k j) [
      | inl e ↦ ap (λ z. if z then false else v.declared k) (eq-eqb k j e)
      | inr n ↦ ap (λ z. if z then false else v.declared k) (ne_eqb k j n) ∙ f.undeclared k (was_active k h)
    ];
  }
    where
      none_was : is_nonempty (with_each (v.waits j) ks) ≡ false → is_nonempty (v.waits j) ≡ false
      none_was h = false_from_ne_true (is_nonempty (v.waits j)) (λ y.
          let r = some_in (v.waits j) y in
          true≢false (sym (in_some (with_each (v.waits j) ks) r.0 (in_with (v.waits j) ks r.0 ∙ ap (λ z. z || in_list ks r.0) r.1)) ∙ h))

      was_active : (k : ℕ) → is_nonempty (if k == j then with_each (v.waits j) ks else v.waits k) ≡ false → is_nonempty (v.waits k) ≡ false
      was_active k h = elim (cases_eq k j) [
        | inl e ↦ ap (λ q. is_nonempty (v.waits q)) e ∙ none_was (sym (ap (λ z. is_nonempty (if z then with_each (v.waits j) ks else v.waits k)) (eq-eqb k j e)) ∙ h)
        | inr n ↦ sym (ap (λ z. is_nonempty (if z then with_each (v.waits j) ks else v.waits k)) (ne_eqb k j n)) ∙ h
      ]

  marked : (v : State) (i n k : ℕ) → FactsOf v → is_nonempty (v.waits k) ≡ true → FactsOf (record v { marks = set_at v.marks k (set_at (v.marks k) i n) })
  marked v i n k f blocked = record {
    places = f.places;
    ascend = f.ascend;
    few = f.few;
    no_stamp = f.no_stamp;
    no_marks = λ q h. elim (cases_eq q k) [
      | inl e ↦ absurd (true≢false (sym (ap (λ z. is_nonempty (v.waits z)) e ∙ blocked) ∙ h))
      | inr far ↦ ap (λ z. if z then set_at (v.marks k) i n else v.marks q) (ne_eqb q k far) ∙ f.no_marks q h
    ];
    undeclared = f.undeclared;
  }

  passes_blocked : (v : State) (i n k : ℕ) → passes v n i k ≡ true → is_blocked v k ≡ true
  passes_blocked v i n k h = let r = passes_in v n i k h in in_some (v.waits k) r.0 r.1

  moved : (v : State) (ev : Event) → FactsOf v → Accepts home s v ev → FactsOf (changed home s v ev)
  moved v (Ask j ks) f acc = asked v j ks f acc
  moved v (Reply k j) f acc = go (home j == s)
    where
      answered : State
      answered = record v { owed = set_pair v.owed k j false }

      go : (z : Bool) → FactsOf (if z then with_waits answered j (without (v.waits j) k) else answered)
      go true = fewer answered j (without (v.waits j) k) f (without_ascends (v.waits j) k (f.ascend j)) (length_without (v.waits j) k) (λ q h. without_in (v.waits j) k q h)
      go false = f
  moved v (Withdraw j ks) f acc =
      fewer (record v { leaving = (λ i k. targets_away home s j ks i k || v.leaving i k); owed = (λ k i. not (targets_here home s j ks i k) && v.owed k i) })
      j (without_all (v.waits j) ks) f (without_all_ascends (v.waits j) ks (f.ascend j)) (length_without_all (v.waits j) ks)
      (λ q h. (and_parts (in_list (v.waits j) q) (not (in_list ks q)) (sym (in_minus (v.waits j) ks q) ∙ h)).0)
  moved v (Turn c) f acc = f
  moved v (Got a c (Request j k)) f acc = f
  moved v (Got a c (Reply_frame k j)) f acc = go (waits_for v j k)
    where
      go : (z : Bool) → FactsOf (if z then with_waits v j (without (v.waits j) k) else record v { leaving = set_pair v.leaving j k false })
      go true = fewer v j (without (v.waits j) k) f (without_ascends (v.waits j) k (f.ascend j)) (length_without (v.waits j) k) (λ q h. without_in (v.waits j) k q h)
      go false = f
  moved v (Got a c (Withdraw_frame j k)) f acc = f
  moved v (Got a c (Probe i n j k)) f acc = go (probe_acts v i n j k) refl
    where
      go : (z : Bool) → probe_acts v i n j k ≡ z → FactsOf (if z then record v { marks = set_at v.marks k (set_at (v.marks k) i n) } else v)
      go true acts = marked v i n k f (passes_blocked v i n k (and_parts (passes v n i k) (v.owed k j) (and_parts (passes v n i k && v.owed k j) _ acts).0).0)
      go false acts = f

  -- ---- who is declared is blocked

  newly_is : (v : State) (i q : ℕ) → Some q ≡ newly v i → i ≡ q
  newly_is v i q h = go (v.declared i) h
    where
      go : (z : Bool) → Some q ≡ (if z then None else Some i) → i ≡ q
      go true g = absurd (cc g)
      go false g = cc g

  none_new : (v : State) (q : ℕ) → Some q ≡ None → is_blocked v q ≡ true
  none_new v q h = absurd (cc h)

  declared_blocked : (v : State) (ev : Event) (sent : List (ℕ × Message)) (q : ℕ) → Sends home s v ev sent (Some q) → is_blocked (changed home s v ev) q ≡ true
  declared_blocked v (Ask j ks) sent q h = elim h.2 [
    | inr no' ↦ absurd (cc no'.2)
    | inl yes' ↦
        let u : State = changed home s v (Ask j ks) in
        let first = (and_parts (waits_for u j yes'.0.0) _ yes'.0.2.0).0 in
        ap (is_blocked u) (sym (newly_is u j q yes'.2)) ∙ in_some (u.waits j) yes'.0.0 first
  ]
  declared_blocked v (Reply k j) sent q h = none_new (changed home s v (Reply k j)) q h.1
  declared_blocked v (Withdraw j ks) sent q h = none_new (changed home s v (Withdraw j ks)) q h.1
  declared_blocked v (Turn c) sent q h = none_new (changed home s v (Turn c)) q h.1
  declared_blocked v (Got a c (Request j k)) sent q h = none_new (changed home s v (Got a c (Request j k))) q h.1
  declared_blocked v (Got a c (Reply_frame k j)) sent q h = none_new (changed home s v (Got a c (Reply_frame k j))) q h.1
  declared_blocked v (Got a c (Withdraw_frame j k)) sent q h = none_new (changed home s v (Got a c (Withdraw_frame j k))) q h.1
  declared_blocked v (Got a c (Probe i n j k)) sent q h =
      ap (λ r. is_nonempty (r q)) (got_probe home s v a c i n j k).1 ∙ go (probe_acts v i n j k) h
    where
      go : (z : Bool) → MatchBool z (DeclaresOrProbes home (ReachesLocally home s v n i k i × (passes v n i i ≡ true)) s v (max v.clock c) i n k sent (Some q)) ((sent ≡ []) × (Some q ≡ None)) → is_blocked v q ≡ true
      go false g = absurd (cc g.1)
      go true (inr g) = absurd (cc g.2)
      go true (inl g) = ap (is_blocked v) (sym (newly_is v i q g.2)) ∙ passes_blocked v i n i g.0.1

  after_event : (v : State) (ev : Event) (sent : List (ℕ × Message)) (d : Option ℕ) → FactsOf v → Accepts home s v ev → Sends home s v ev sent d → FactsOf (after home s v ev d)
  after_event v ev sent None f acc out = moved v ev f acc
  after_event v ev sent (Some q) f acc out =
      let g = moved v ev f acc in
      record {
        places = g.places;
        ascend = g.ascend;
        few = g.few;
        no_stamp = g.no_stamp;
        no_marks = g.no_marks;
        undeclared = λ k h. elim (cases_eq k q) [
          | inl e ↦ absurd (true≢false (sym (ap (is_blocked (changed home s v ev)) e ∙ declared_blocked v ev sent q out) ∙ h))
          | inr n ↦ ap (λ z. if z then true else (changed home s v ev).declared k) (ne_eqb k q n) ∙ g.undeclared k h
        ];
      }

  -- ---- of what is owed, and of who is left

  record SiteFacts (waits : ℕ → List ℕ) (owed leaving : ℕ → ℕ → Bool) : Type 0 where
    owed_home : (k j : ℕ) → owed k j ≡ true → home k ≡ s
    leaving_away : (j k : ℕ) → leaving j k ≡ true → (home j ≡ s) × (home k ≢ s)
    local : (j k : ℕ) → home j ≡ s → home k ≡ s → in_list (waits j) k ≡ owed k j

  abbrev SiteFactsOf : State → Type 0
  SiteFactsOf v = SiteFacts v.waits v.owed v.leaving

  set_was : (f : ℕ → ℕ → Bool) (a b p q : ℕ) → set_pair f a b false p q ≡ true → f p q ≡ true
  set_was f a b p q h = go ((p == a) && (q == b)) h
    where
      go : (z : Bool) → (if z then false else f p q) ≡ true → f p q ≡ true
      go true h = absurd (true≢false (sym h))
      go false h = h

  owed_stays : (v : State) (ev : Event) → SiteFactsOf v → Accepts home s v ev → (k j : ℕ) → (changed home s v ev).owed k j ≡ true → home k ≡ s
  owed_stays v (Ask i ks) f acc k j h = elim (or_cases (targets_here home s i ks j k) (v.owed k j) h) [
    | inl new ↦ eqb-true (home k) s (and_parts (j == i) (home k == s) (and_parts ((j == i) && (home k == s)) (in_list ks k) new).0).1
    | inr old ↦ f.owed_home k j old
  ]
  owed_stays v (Reply h i) f acc k j y = f.owed_home k j (set_was v.owed h i k j (sym (ap (λ r. r k j) (reply_owed home s v h i)) ∙ y))
  owed_stays v (Withdraw i ks) f acc k j h = f.owed_home k j (and_parts (not (targets_here home s i ks j k)) (v.owed k j) h).1
  owed_stays v (Turn c) f acc k j h = f.owed_home k j h
  owed_stays v (Got a c (Request x y)) f acc k j h = elim (cases_Bool ((k == y) && (j == x))) [
    | inl both ↦ ap home (eqb-true k y (and_parts (k == y) (j == x) both).0) ∙ acc.2
    | inr other ↦ f.owed_home k j (sym (ap (λ z. if z then true else v.owed k j) other) ∙ h)
  ]
  owed_stays v (Got a c (Reply_frame x i)) f acc k j h = f.owed_home k j (sym (ap (λ r. r k j) (got_reply_owed home s v a c x i)) ∙ h)
  owed_stays v (Got a c (Withdraw_frame x y)) f acc k j h = f.owed_home k j (set_was v.owed y x k j h)
  owed_stays v (Got a c (Probe i n x y)) f acc k j h = f.owed_home k j (sym (ap (λ r. r k j) (got_probe home s v a c i n x y).0) ∙ h)

  leaving_stays : (v : State) (ev : Event) → SiteFactsOf v → Accepts home s v ev → (j k : ℕ) → (changed home s v ev).leaving j k ≡ true → (home j ≡ s) × (home k ≢ s)
  leaving_stays v (Ask i ks) f acc j k h = f.leaving_away j k h
  leaving_stays v (Reply x i) f acc j k h = f.leaving_away j k (sym (ap (λ r. r j k) (reply_leaving home s v x i)) ∙ h)
  leaving_stays v (Withdraw i ks) f acc j k h = elim (or_cases (targets_away home s i ks j k) (v.leaving j k) h) [
    | inl new ↦
        let parts = and_parts (j == i) (not (home k == s)) (and_parts ((j == i) && not (home k == s)) (in_list ks k) new).0 in
        (ap home (eqb-true j i parts.0) ∙ acc.0, λ e. true≢false (sym parts.1 ∙ ap not (eq-eqb (home k) s e)))
    | inr old ↦ f.leaving_away j k old
  ]
  leaving_stays v (Turn c) f acc j k h = f.leaving_away j k h
  leaving_stays v (Got a c (Request x y)) f acc j k h = f.leaving_away j k h
  leaving_stays v (Got a c (Reply_frame x i)) f acc j k h = go (waits_for v i x) h
    where
      go : (z : Bool) → (if z then with_waits v i (without (v.waits i) x) else record v { leaving = set_pair v.leaving i x false }).leaving j k ≡ true → (home j ≡ s) × (home k ≢ s)
      go true g = f.leaving_away j k g
      go false g = f.leaving_away j k (set_was v.leaving i x j k g)
  leaving_stays v (Got a c (Withdraw_frame x y)) f acc j k h = f.leaving_away j k h
  leaving_stays v (Got a c (Probe i n x y)) f acc j k h = f.leaving_away j k (sym (ap (λ r. r j k) (got_probe home s v a c i n x y).2) ∙ h)

  site_after : (v : State) (ev : Event) → SiteFactsOf v → Accepts home s v ev → SiteFactsOf (changed home s v ev)
  site_after v ev f acc = record {
    owed_home = owed_stays v ev f acc;
    leaving_away = leaving_stays v ev f acc;
    local = λ j k at_j at_k. (own_move home s v [] None j k ev acc at_j at_k (f.local j k at_j at_k, false_from_ne_true (v.leaving j k) (λ y. (f.leaving_away j k y).1 at_k))).0;
  }

  -- ---- of journals

  abbrev StampFacts : State → Type 0
  StampFacts v = (j k : ℕ) → (v.since j k ≤ v.stamp j) × (v.stamp j ≤ v.clock)

  stamps_after : (v : State) (ev : Event) (d : Option ℕ) → StampFacts v → StampFacts (after home s v ev d)
  stamps_after v ev d f = λ j k.
      let low = (f j k).0 in
      let behind = (f j k).1 in
      ((since_after home s v ev j k low behind).1, (stamp_move home s v ev j behind).1)

  facts : (v : State) → FactsOf v → SiteFactsOf v → StampFacts v → JournalFacts home s v
  facts v f g h = record {
    waits_home = f.places;
    waits_ascend = f.ascend;
    few_waits = f.few;
    no_stamp = f.no_stamp;
    stamps = h;
    no_marks = λ k i y. ap (λ r. r i) (f.no_marks k y);
    undeclared = f.undeclared;
    owed_home = g.owed_home;
    leaving_away = g.leaving_away;
    local = g.local;
  }

  -- one event more
  pub facts_after : (v : State) (ev : Event) (sent : List (ℕ × Message)) (d : Option ℕ) → JournalFacts home s v → Accepts home s v ev → Sends home s v ev sent d
      → JournalFacts home s (after home s v ev d)
  facts_after v ev sent d j acc out =
      let f : FactsOf v = record {
        places = j.waits_home;
        ascend = j.waits_ascend;
        few = j.few_waits;
        no_stamp = j.no_stamp;
        no_marks = λ k h. fun_ext (λ i. j.no_marks k i h);
        undeclared = j.undeclared;
      } in
      let g : SiteFactsOf v = record { owed_home = j.owed_home; leaving_away = j.leaving_away; local = j.local } in
      facts (after home s v ev d) (after_event v ev sent d f acc out) (site_after v ev g acc) (stamps_after v ev d j.stamps)

  on : (v : State) (es : List Entry) → FactsOf v → SiteFactsOf v → StampFacts v → LawfulFrom home s v es → JournalFacts home s (state_after home s v es)
  on v [] f g h lawful = facts v f g h
  on v (e ∷ es) f g h lawful =
      on (after home s v e.event e.declared) es (after_event v e.event e.sent e.declared f lawful.0 lawful.1) (site_after v e.event g lawful.0)
      (stamps_after v e.event e.declared h) lawful.2

pub lawful_states : LawfulStates
lawful_states home s journal lawful = on home s empty_state journal
    (record {
      places = λ j k h. absurd (true≢false (sym h));
      ascend = λ j. tt;
      few = λ j. omega arith;
      no_stamp = λ j k h. refl;
      no_marks = λ k h. refl;
      undeclared = λ k h. refl;
    })
    (record { owed_home = λ k j h. absurd (true≢false (sym h)); leaving_away = λ j k h. absurd (true≢false (sym h)); local = λ j k a b. refl })
    (λ j k. (omega arith, omega arith))
    lawful
