-- The declared withdraw, and all is delivered.
use Rattle.std.proofs.Common.{◌≡◌, ℕ, ◌<◌, max, Bool, true, false, not, ◌||◌, List, [], ◌∷◌, ◌++◌, ◌==◌, if◌then◌else◌, None, refl, sym, ap, ◌∙◌, subst, inl, inr, true≢false, append-nil, append_assoc, arith}
use Rattle.std.proofs.lemmas.Bool.{cases_Bool, cases_eq, cases_lt, eqb-true, eq-eqb, and_parts, or_cases, ltb-true, lt-ltb, false_from_ne_true}
use Rattle.std.specs.List.{AllByRecursion}
use Rattle.cmh_model3.specs.declared.event.Event.{Event}
use Rattle.cmh_model3.specs.declared.event.Event.TheVariants.{Ask, Reply, Withdraw, Got, Turn}
use Rattle.cmh_model3.specs.Lists.{in_list, without_all, IsAscending}
use Rattle.cmh_model3.specs.Entries.{WorldEvent}
use Rattle.cmh_model3.specs.State.{State, is_blocked}
use Rattle.cmh_model3.specs.Paths.{IsPath}
use Rattle.cmh_model3.specs.Rules.{Accepts}
use Rattle.cmh_model3.specs.Runs.{under_way, state_of, receipts, sendings, IsRun}
use Rattle.cmh_model3.specs.Waits.{is_ask, wait_after, Waits}
use Rattle.cmh_model3.specs.Laws.{TurnsGoOn}
use Rattle.cmh_model3.specs.Victims.{is_delivery, IsReleased, ReleasedAreEnough, IsResolution, VictimsCanEnd}
use Rattle.cmh_model3.specs.Rest.{blocked}
use Rattle.std.specs.Prelude.{ltb}
use Rattle.cmh_model3.proofs.Counts.{in_minus}
use Rattle.cmh_model3.proofs.Marks.{some_in, in_some}
use Rattle.cmh_model3.proofs.Cuts.{run_front}
use Rattle.cmh_model3.proofs.Runs.{wait-append, one_step}
use Rattle.cmh_model3.proofs.Silent.{known_of_run}
use Rattle.cmh_model3.proofs.Ends.{of_path, to_path}
use Rattle.cmh_model3.proofs.Greatest.{each_cycle_declared}
use Rattle.cmh_model3.proofs.Extends.{extends_run}
use Rattle.cmh_model3.proofs.Victims.{waited, all_back, turned}
use Rattle.cmh_model3.proofs.Senders.{runs_go_on, askers_list}
use Rattle.cmh_model3.proofs.Piles.{in_blocked}
use Rattle.cmh_model3.proofs.Rests.{rest_comes}

pub turns_go_on : TurnsGoOn
turns_go_on home events run s c low below =
    let e : WorldEvent = record { site = s; entry = record { event = Turn c; sent = []; declared = None } } in
    let on = extends_run home events e run (low, below) (refl, refl) (λ a. (under_way a s events, refl)) in
    let step = one_step home events e [] on in
    let top : max (state_of home s events).clock c ≡ c = omega (arith, low) in
    (on, step.here ∙ ap (λ z. record (state_of home s events) { clock = z }) top)

pub released_are_enough : ReleasedAreEnough
released_are_enough home before rest run drained quiet releases i cycle =
    let back : (x y : ℕ) → Waits (before ++ rest) x y → Waits before x y = λ x y w. waited (wait_after false x y before) x y rest quiet (sym (wait-append false x y before rest) ∙ w) in
    let path : IsPath (Waits (before ++ rest)) i (cycle.0 ∷ cycle.1) i = cycle.2 in
    let was : IsPath (Waits before) i (cycle.0 ∷ cycle.1) i = to_path (Waits (before ++ rest)) (Waits before) i (cycle.0 ∷ cycle.1) i path (λ x y g. back x y (of_path (Waits (before ++ rest)) i (cycle.0 ∷ cycle.1) i path x y g)) in
    let found = each_cycle_declared home before (run_front home before rest run) drained i cycle.0 cycle.1 was in
    let k : ℕ = found.0 in
    let now = turned (Waits (before ++ rest)) i (cycle.0 ∷ cycle.1) k found.1 path in
    let then' = turned (Waits before) i (cycle.0 ∷ cycle.1) k found.1 was in
    left k now.0 (releases k found.2 then') now.2.0
  where
    left : (k y : ℕ) → IsReleased home before rest k → Waits (before ++ rest) k y → ⊥
    left k y r w =
        let events : before ++ rest ≡ (before ++ r.0) ++ r.1 = ap (λ l. before ++ l) r.2 ∙ sym (append_assoc before r.0 r.1) in
        let still = all_back r.0 r.1 (subst (AllByRecursion (λ (e : WorldEvent). is_ask e.entry.event ≡ false)) r.2 quiet) in
        let was = waited (wait_after false k y (before ++ r.0)) k y r.1 still (sym (wait-append false k y (before ++ r.0) r.1) ∙ sym (ap (wait_after false k y) events) ∙ w) in
        let kept = (known_of_run home (before ++ r.0) (run_front home (before ++ r.0) r.1 (subst (IsRun home) events run))).marks.back k y was in
        true≢false (sym (in_some ((state_of home (home k) (before ++ r.0)).waits k) y kept) ∙ r.3)

-- ---- in ascending order
abbrev put : ℕ → List ℕ → List ℕ
put q [] = q ∷ []
put q (x ∷ xs) = if q == x then x ∷ xs else (if ltb q x then q ∷ x ∷ xs else x ∷ put q xs)

abbrev sorted : List ℕ → List ℕ
sorted [] = []
sorted (q ∷ qs) = put q (sorted qs)

all_low : (q x : ℕ) → q < x → (xs : List ℕ) → AllByRecursion (λ y. x < y) xs → AllByRecursion (λ y. q < y) xs
all_low q x l [] h = tt
all_low q x l (y ∷ ys) h = let a = h.0 in (omega (arith, l, a), all_low q x l ys h.1)

all_put : (p q : ℕ) → p < q → (xs : List ℕ) → AllByRecursion (λ y. p < y) xs → AllByRecursion (λ y. p < y) (put q xs)
all_put p q l [] h = (l, tt)
all_put p q l (x ∷ xs) h = go (all_put p q l xs h.1) (q == x) (ltb q x)
  where
    go : AllByRecursion (λ y. p < y) (put q xs) → (z t : Bool) → AllByRecursion (λ y. p < y) (if z then x ∷ xs else (if t then q ∷ x ∷ xs else x ∷ put q xs))
    go r true t = h
    go r false true = (l, h)
    go r false false = (h.0, r)

put_ascends : (home : ℕ → ℕ) (q : ℕ) (xs : List ℕ) → IsAscending xs → IsAscending (put q xs)
put_ascends home q [] h = (tt, tt)
put_ascends home q (x ∷ xs) h = go (put_ascends home q xs h.1) (q == x) (ltb q x) refl refl
  where
    no_less : (ltb q x ≡ false) → (q == x) ≡ false → x < q
    no_less e f = elim (cases_lt x q) [
      | inl l ↦ l
      | inr ge ↦ elim (cases_eq q x) [
        | inl same ↦ absurd (true≢false (sym (eq-eqb q x same) ∙ f))
        | inr far ↦ elim (cases_lt q x) [
          | inl l ↦ absurd (true≢false (sym (lt-ltb q x l) ∙ e))
          | inr up ↦ absurd (far (omega (arith, up, ge)))
        ]
      ]
    ]

    go : IsAscending (put q xs) → (z t : Bool) → (q == x) ≡ z → ltb q x ≡ t → IsAscending (if z then x ∷ xs else (if t then q ∷ x ∷ xs else x ∷ put q xs))
    go r true t e f = h
    go r false true e f = let l = ltb-true q x f in ((l, all_low q x l xs h.0), h)
    go r false false e f = (all_put x q (no_less f e) xs h.0, r)

sorted_ascends : (home : ℕ → ℕ) (xs : List ℕ) → IsAscending (sorted xs)
sorted_ascends home [] = tt
sorted_ascends home (q ∷ qs) = put_ascends home q (sorted qs) (sorted_ascends home qs)

in_put : (q : ℕ) (xs : List ℕ) (k : ℕ) → in_list (put q xs) k ≡ ((q == k) || in_list xs k)
in_put q [] k = refl
in_put q (x ∷ xs) k = go (in_put q xs k) (q == x) (ltb q x) refl
  where
    twice : (a b : Bool) → (a || b) ≡ (a || (a || b))
    twice true b = refl
    twice false b = refl

    turn : (a b c : Bool) → (a || (b || c)) ≡ (b || (a || c))
    turn true true c = refl
    turn true false c = refl
    turn false b c = refl

    go : in_list (put q xs) k ≡ ((q == k) || in_list xs k) → (z t : Bool) → (q == x) ≡ z → in_list (if z then x ∷ xs else (if t then q ∷ x ∷ xs else x ∷ put q xs)) k ≡ ((q == k) || ((x == k) || in_list xs k))
    go r true t e = twice (x == k) (in_list xs k) ∙ ap (λ y. (y == k) || ((x == k) || in_list xs k)) (sym (eqb-true q x e))
    go r false true e = refl
    go r false false e = ap (λ y. (x == k) || y) r ∙ turn (x == k) (q == k) (in_list xs k)

in_sorted : (xs : List ℕ) (k : ℕ) → in_list (sorted xs) k ≡ in_list xs k
in_sorted [] k = refl
in_sorted (q ∷ qs) k = in_put q (sorted qs) k ∙ ap (λ z. (q == k) || z) (in_sorted qs k)

-- ---- each withdraws
all_join : (P : WorldEvent → Type 0) (xs ys : List WorldEvent) → AllByRecursion P xs → AllByRecursion P ys → AllByRecursion P (xs ++ ys)
all_join P [] ys h g = g
all_join P (x ∷ xs) ys h g = (h.0, all_join P xs ys h.1 g)

all_map : (P Q : WorldEvent → Type 0) → ((e : WorldEvent) → P e → Q e) → (xs : List WorldEvent) → AllByRecursion P xs → AllByRecursion Q xs
all_map P Q f [] h = tt
all_map P Q f (x ∷ xs) h = (f x h.0, all_map P Q f xs h.1)

module _ (home : ℕ → ℕ) (before : List WorldEvent) (run : IsRun home before) where
  later : (rest more : List WorldEvent) (k : ℕ) → IsReleased home before rest k → IsReleased home before (rest ++ more) k
  later rest more k r = (r.0, r.1 ++ more, ap (λ l. l ++ more) r.2 ∙ append_assoc r.0 r.1 more, r.3)

  abbrev Resolved : List ℕ → Type 0
  Resolved ks =
      (rest : List WorldEvent) × IsRun home (before ++ rest) × AllByRecursion (IsResolution home before) rest
      × ((k : ℕ) → in_list ks k ≡ true → (state_of home (home k) before).declared k ≡ true → IsReleased home before rest k)

  -- one more withdraws, if it waits
  one_more : (q : ℕ) (ks : List ℕ) → Resolved ks → (state_of home (home q) before).declared q ≡ true → Resolved (q ∷ ks)
  one_more q ks r was = elim (cases_Bool (is_blocked (state_of home (home q) (before ++ r.0)) q)) [
    | inr idle ↦ (
      r.0,
      r.1,
      r.2,
      (λ k h d. elim (or_cases (q == k) (in_list ks k) h) [
        | inl e ↦ subst (IsReleased home before r.0) (eqb-true q k e) (r.0, [], sym (append-nil r.0), idle)
        | inr m ↦ r.3 k m d
      ]),
    )
    | inl blocks ↦
        let events : List WorldEvent = before ++ r.0 in
        let v : State = state_of home (home q) events in
        let targets : List ℕ = sorted (v.waits q) in
        let first = some_in (v.waits q) blocks in
        let acc : Accepts home (home q) v (Withdraw q targets) = (refl, in_some targets first.0 (in_sorted (v.waits q) first.0 ∙ first.1), sorted_ascends home (v.waits q), (λ k h. sym (in_sorted (v.waits q) k) ∙ h)) in
        let on = (runs_go_on home events r.1).0 (home q) (Withdraw q targets) acc (λ a. refl) in
        let e : WorldEvent = record { site = home q; entry = record { event = Withdraw q targets; sent = on.0; declared = on.1 } } in
        let same = append_assoc before r.0 (e ∷ []) in
        let step = one_step home events e [] on.2 in
        let active : is_blocked (state_of home (home q) (events ++ e ∷ [])) q ≡ false = false_from_ne_true _ (λ y.
        let still = some_in ((state_of home (home q) (events ++ e ∷ [])).waits q) y in
        let now : in_list (without_all (v.waits q) targets) still.0 ≡ true = sym (ap (λ (u : State). in_list (u.waits q) still.0) step.here ∙ ap (λ z. in_list (if z then without_all (v.waits q) targets else v.waits q) still.0) (eq-eqb q q refl)) ∙ still.1 in
        let both = and_parts (in_list (v.waits q) still.0) (not (in_list targets still.0)) (sym (in_minus (v.waits q) targets still.0) ∙ now) in
        true≢false (sym both.1 ∙ ap not (in_sorted (v.waits q) still.0 ∙ both.0))) in (
          r.0 ++ e ∷ [],
          subst (IsRun home) same on.2,
          all_join (IsResolution home before) r.0 (e ∷ []) r.2 (inr (q, targets, refl, was), tt),
          (λ k h d. elim (or_cases (q == k) (in_list ks k) h) [
            | inl g ↦ subst (IsReleased home before (r.0 ++ e ∷ [])) (eqb-true q k g) (r.0 ++ e ∷ [], [], sym (append-nil (r.0 ++ e ∷ [])), ap (λ l. is_blocked (state_of home (home q) l) q) (sym same) ∙ active)
            | inr m ↦ later r.0 (e ∷ []) k (r.3 k m d)
          ]),
        )
  ]

  resolve : (ks : List ℕ) → Resolved ks
  resolve [] = ([], subst (IsRun home) (sym (append-nil before)) run, tt, (λ k h d. absurd (true≢false (sym h))))
  resolve (q ∷ qs) = elim (cases_Bool ((state_of home (home q) before).declared q)) [
    | inl was ↦ one_more q qs (resolve qs) was
    | inr not' ↦ let r = resolve qs in (
      r.0,
      r.1,
      r.2,
      (λ k h d. elim (or_cases (q == k) (in_list qs k) h) [
        | inl e ↦ absurd (true≢false (sym d ∙ sym (ap (λ z. (state_of home (home z) before).declared z) (eqb-true q k e)) ∙ not'))
        | inr m ↦ r.3 k m d
      ]),
    )
  ]

got_quiet : (ev : Event) → is_delivery ev ≡ true → is_ask ev ≡ false
got_quiet (Ask j ks) h = absurd (true≢false (sym h))
got_quiet (Reply k j) h = refl
got_quiet (Withdraw j ks) h = refl
got_quiet (Got a c f) h = refl
got_quiet (Turn c) h = refl

pub victims_can_end : VictimsCanEnd
victims_can_end home before run drained =
    let r = resolve home before run (blocked home before) in
    let more = rest_comes home (before ++ r.0) r.1 in
    let same = append_assoc before r.0 more.0 in
    let whole_run = subst (IsRun home) same more.1 in
    let all = all_join (IsResolution home before) r.0 more.0 r.2 (all_map (λ (e : WorldEvent). is_delivery e.entry.event ≡ true) (IsResolution home before) (λ e g. inl g) more.0 more.2) in
    let quiet = all_map (IsResolution home before) (λ (e : WorldEvent). is_ask e.entry.event ≡ false) (λ e g. elim g [ inl d ↦ got_quiet e.entry.event d | inr w ↦ ap is_ask w.2 ]) (r.0 ++ more.0) all in (
      r.0 ++ more.0,
      whole_run,
      all,
      subst (λ l. (a b : ℕ) → receipts a b l ≡ sendings a b l) same more.3,
      released_are_enough home before (r.0 ++ more.0) whole_run drained quiet (λ k d cycle.
          let kept = (known_of_run home before run).marks.back k cycle.0 cycle.2.0 in
          let blocks = in_some ((state_of home (home k) before).waits k) cycle.0 kept in
          later home before run r.0 more.0 k (r.3 k (in_blocked home before k (askers_list home before run k blocks) blocks) d)),
    )
