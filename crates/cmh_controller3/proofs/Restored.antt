-- What a controller keeps when it takes a fact more.
use Rattle.std.proofs.Common.{◌≡◌, ◌≢◌, ℕ, ◌≤◌, Bool, true, false, ◌&&◌, ◌||◌, List, [], ◌∷◌, length, ◌==◌, if◌then◌else◌, ltb, refl, sym, ap, ◌∙◌, subst, inl, inr, arith}
use Rattle.std.proofs.Math.Path.{fun_ext}
use Rattle.std.proofs.lemmas.Bool.{and_parts, cases_eq, eq-eqb, eqb-true, ne_eqb, or_cases, true≢false}
use Rattle.cmh_model3.specs.Laws.{JournalFacts}
use Rattle.cmh_model3.specs.Lists.{IsAscending, in_list, is_nonempty, set_at, set_pair, with_each, with_one}
use Rattle.cmh_model3.specs.Rules.{most_waits}
use Rattle.cmh_model3.specs.State.{State, is_blocked}
use Rattle.cmh_model3.proofs.Ascending.{each_ascends, length_each, neither}
use Rattle.cmh_model3.proofs.Counts.{and_no, in_with}
use Rattle.cmh_model3.proofs.Marks.{some_in}
use Rattle.cmh_waits3.specs.Held.{Held, since_of, waits_of}
use Rattle.cmh_controller3.specs.declared.mark_row.Mark.{Mark}
use Rattle.cmh_controller3.specs.Controller.{Controller, Kept, home_of, owed_of, state_kept, state_of}
use Rattle.cmh_controller3.specs.Inner.Kept.{IsKept}
use Rattle.cmh_controller3.specs.Restoring.{MayLeave, MayOwe, MayStamp, MayWait, Takes, with_clock, with_declared, with_leaving, with_mark, with_owed, with_stamp, with_wait}
use Rattle.cmh_controller3.specs.Tables.{flags_of, marks_of, pairs_of, stamps_of}
use Rattle.cmh_controller3.specs.WaysBack.{owed_back}
use Rattle.cmh_controller3.proofs.After.{kept_is, owed_set}
use Rattle.cmh_controller3.proofs.Back.{back_kept}
use Rattle.cmh_controller3.proofs.Kept.{AsLarge, asked_at, askers_more}

-- ---- bits and lists

either : {X : Type 0} (P : X → Type 0) (z : Bool) (a b : X) → P a → P b → P (if z then a else b)
either P true a b x y = x
either P false a b x y = y

or_no : (z : Bool) → (z || false) ≡ z
or_no true = refl
or_no false = refl

turned : (a b : ℕ) → (a == b) ≡ (b == a)
turned a b = elim (cases_eq a b) [
  | inl e ↦ eq-eqb a b e ∙ sym (eq-eqb b a (sym e))
  | inr n ↦ ne_eqb a b n ∙ sym (ne_eqb b a (λ e. n (sym e)))
]

one_in : (k b : ℕ) → in_list (k ∷ []) b ≡ (b == k)
one_in k b = or_no (k == b) ∙ turned k b

in_more : (qs : List ℕ) (k b : ℕ) → in_list (with_one qs k) b ≡ (in_list qs b || (b == k))
in_more qs k b = in_with qs (k ∷ []) b ∙ ap (λ z. in_list qs b || z) (one_in k b)

some_waits : (qs : List ℕ) (k : ℕ) → is_nonempty (with_one qs k) ≡ true
some_waits [] k = refl
some_waits (q ∷ qs) k = go (ltb k q)
  where
    go : (z : Bool) → is_nonempty (if z then k ∷ q ∷ qs else q ∷ with_one qs k) ≡ true
    go true = refl
    go false = refl

-- ---- the facts hold with one more

module _ (home : ℕ → ℕ) (s : ℕ) (v : State) (f : JournalFacts home s v) where
  facts_clock : (c : ℕ) → v.clock ≤ c → JournalFacts home s (with_clock v c)
  facts_clock c later = record {
    waits_home = f.waits_home;
    waits_ascend = f.waits_ascend;
    few_waits = f.few_waits;
    no_stamp = f.no_stamp;
    stamps = λ j k. ((f.stamps j k).0, let low = (f.stamps j k).1 in omega (arith, low, later));
    no_marks = f.no_marks;
    undeclared = f.undeclared;
    owed_home = f.owed_home;
    leaving_away = f.leaving_away;
    local = f.local;
  }

  facts_stamp : (p n : ℕ) → MayStamp home s v p n → JournalFacts home s (with_stamp v p n)
  facts_stamp p n may = record {
    waits_home = f.waits_home;
    waits_ascend = f.waits_ascend;
    few_waits = f.few_waits;
    no_stamp = f.no_stamp;
    stamps = λ j k. elim (cases_eq j p) [
      | inl e ↦
          let low = (f.stamps j k).0 in
          let up = may.1 in
          let same : v.stamp j ≡ v.stamp p = ap v.stamp e in
          subst (λ x. (v.since j k ≤ x) × (x ≤ v.clock)) (sym (ap (λ z. if z then n else v.stamp j) (eq-eqb j p e))) (omega (arith, low, up, same), may.2)
      | inr other ↦ subst (λ x. (v.since j k ≤ x) × (x ≤ v.clock)) (sym (ap (λ z. if z then n else v.stamp j) (ne_eqb j p other))) (f.stamps j k)
    ];
    no_marks = f.no_marks;
    undeclared = f.undeclared;
    owed_home = f.owed_home;
    leaving_away = f.leaving_away;
    local = f.local;
  }

  facts_leaving : (j k : ℕ) → MayLeave home s j k → JournalFacts home s (with_leaving v j k)
  facts_leaving j k apart = record {
    waits_home = f.waits_home;
    waits_ascend = f.waits_ascend;
    few_waits = f.few_waits;
    no_stamp = f.no_stamp;
    stamps = f.stamps;
    no_marks = f.no_marks;
    undeclared = f.undeclared;
    owed_home = f.owed_home;
    leaving_away = λ x y h. away x y ((x == j) && (y == k)) refl h;
    local = f.local;
  }
    where
      away : (x y : ℕ) (z : Bool) → ((x == j) && (y == k)) ≡ z → (if z then true else v.leaving x y) ≡ true → (home x ≡ s) × (home y ≢ s)
      away x y true e h =
          let parts = and_parts (x == j) (y == k) e in
          (ap home (eqb-true x j parts.0) ∙ apart.0, λ at. apart.2 (sym (ap home (eqb-true y k parts.1)) ∙ at))
      away x y false e h = f.leaving_away x y h

  facts_owed : (k j : ℕ) → home k ≡ s → home j ≢ s → JournalFacts home s (with_owed v k j)
  facts_owed k j at away = record {
    waits_home = f.waits_home;
    waits_ascend = f.waits_ascend;
    few_waits = f.few_waits;
    no_stamp = f.no_stamp;
    stamps = f.stamps;
    no_marks = f.no_marks;
    undeclared = f.undeclared;
    owed_home = λ x y h. here x y ((x == k) && (y == j)) refl h;
    leaving_away = f.leaving_away;
    local = λ x y at_x at_y. f.local x y at_x at_y
        ∙ sym (ap (λ z. if z then true else v.owed y x) (ap (λ z. (y == k) && z) (ne_eqb x j (λ e. away (sym (ap home e) ∙ at_x))) ∙ and_no (y == k)));
  }
    where
      here : (x y : ℕ) (z : Bool) → ((x == k) && (y == j)) ≡ z → (if z then true else v.owed x y) ≡ true → home x ≡ s
      here x y true e h = ap home (eqb-true x k (and_parts (x == k) (y == j) e).0) ∙ at
      here x y false e h = f.owed_home x y h

  facts_mark : (k i n : ℕ) → is_blocked v k ≡ true → JournalFacts home s (with_mark v k i n)
  facts_mark k i n blocked = record {
    waits_home = f.waits_home;
    waits_ascend = f.waits_ascend;
    few_waits = f.few_waits;
    no_stamp = f.no_stamp;
    stamps = f.stamps;
    no_marks = λ q o h. elim (cases_eq q k) [
      | inl e ↦ absurd (true≢false (sym (ap (is_blocked v) e ∙ blocked) ∙ h))
      | inr far ↦ ap (λ (z : Bool). (if z then set_at (v.marks k) i n else v.marks q) o) (ne_eqb q k far) ∙ f.no_marks q o h
    ];
    undeclared = f.undeclared;
    owed_home = f.owed_home;
    leaving_away = f.leaving_away;
    local = f.local;
  }

  facts_declared : (i : ℕ) → is_blocked v i ≡ true → JournalFacts home s (with_declared v i)
  facts_declared i blocked = record {
    waits_home = f.waits_home;
    waits_ascend = f.waits_ascend;
    few_waits = f.few_waits;
    no_stamp = f.no_stamp;
    stamps = f.stamps;
    no_marks = f.no_marks;
    undeclared = λ q h. elim (cases_eq q i) [
      | inl e ↦ absurd (true≢false (sym (ap (is_blocked v) e ∙ blocked) ∙ h))
      | inr far ↦ ap (λ z. if z then true else v.declared q) (ne_eqb q i far) ∙ f.undeclared q h
    ];
    owed_home = f.owed_home;
    leaving_away = f.leaving_away;
    local = f.local;
  }

  -- ---- with one wait more

  module _ (j k n : ℕ) (may : MayWait home s v j k n) where
    abbrev waits : ℕ → List ℕ
    waits = set_at v.waits j (with_one (v.waits j) k)

    at_asker : (a b : ℕ) → a ≡ j → in_list (waits a) b ≡ (in_list (v.waits a) b || (b == k))
    at_asker a b e =
        ap (λ z. in_list (if z then with_one (v.waits j) k else v.waits a) b) (eq-eqb a j e) ∙ in_more (v.waits j) k b ∙ ap (λ q. in_list (v.waits q) b || (b == k)) (sym e)

    at_other : (a b : ℕ) → a ≢ j → in_list (waits a) b ≡ in_list (v.waits a) b
    at_other a b other = ap (λ z. in_list (if z then with_one (v.waits j) k else v.waits a) b) (ne_eqb a j other)

    was_active : (a : ℕ) → is_nonempty (waits a) ≡ false → is_nonempty (v.waits a) ≡ false
    was_active a h = elim (cases_eq a j) [
      | inl e ↦ absurd (true≢false (sym (ap (λ z. is_nonempty (if z then with_one (v.waits j) k else v.waits a)) (eq-eqb a j e) ∙ some_waits (v.waits j) k) ∙ h))
      | inr other ↦ sym (ap (λ z. is_nonempty (if z then with_one (v.waits j) k else v.waits a)) (ne_eqb a j other)) ∙ h
    ]

    ascends : IsAscending (with_one (v.waits j) k)
    ascends = each_ascends (v.waits j) (k ∷ []) (f.waits_ascend j) (tt, tt) (λ x h. ap (in_list (v.waits j)) (eqb-true x k (sym (one_in k x) ∙ h)) ∙ may.3)

    few : length (with_one (v.waits j) k) ≤ most_waits
    few =
        let more = length_each (v.waits j) (k ∷ []) in
        let room = may.4 in
        omega (arith, more, room)

    begun : (a b : ℕ) → (if (a == j) && (b == k) then n else v.since a b) ≤ v.stamp a
    begun a b = go ((a == j) && (b == k)) refl
      where
        go : (z : Bool) → ((a == j) && (b == k)) ≡ z → (if z then n else v.since a b) ≤ v.stamp a
        go true e = subst (λ q. n ≤ v.stamp q) (sym (eqb-true a j (and_parts (a == j) (b == k) e).0)) may.5
        go false e = (f.stamps a b).0

    no_stamp : (a b : ℕ) → in_list (waits a) b ≡ false → (if (a == j) && (b == k) then n else v.since a b) ≡ 0
    no_stamp a b h = elim (cases_eq a j) [
      | inl e ↦
          let out = neither (in_list (v.waits a) b) (b == k) (sym (at_asker a b e) ∙ h) in
          ap (λ z. if z then n else v.since a b) (ap (λ z. (a == j) && z) out.1 ∙ and_no (a == j)) ∙ f.no_stamp a b out.0
      | inr other ↦ ap (λ z. if z && (b == k) then n else v.since a b) (ne_eqb a j other) ∙ f.no_stamp a b (sym (at_other a b other) ∙ h)
    ]

    owed_here : (x y : ℕ) → owed_back home s waits v.owed x y ≡ true → home x ≡ s
    owed_here x y h = go (home y == s) h
      where
        go : (z : Bool) → (if z then (home x == s) && in_list (waits y) x else v.owed x y) ≡ true → home x ≡ s
        go true h = eqb-true (home x) s (and_parts (home x == s) (in_list (waits y) x) h).0
        go false h = f.owed_home x y h

    local : (a b : ℕ) → home a ≡ s → home b ≡ s → in_list (waits a) b ≡ owed_back home s waits v.owed b a
    local a b at_a at_b = sym (ap (λ z. if z then (home b == s) && in_list (waits a) b else v.owed b a) (eq-eqb (home a) s at_a) ∙ ap (λ z. z && in_list (waits a) b) (eq-eqb (home b) s at_b))

    facts_wait : JournalFacts home s (with_wait home s v j k n)
    facts_wait = record {
      waits_home = λ a b h. elim (cases_eq a j) [
        | inl e ↦ elim (or_cases (in_list (v.waits a) b) (b == k) (sym (at_asker a b e) ∙ h)) [
          | inl old ↦ f.waits_home a b old
          | inr new ↦
              let same = eqb-true b k new in
              (ap home e ∙ may.0, (λ none. may.1 (sym (ap home same) ∙ none)), λ self. may.2 (sym same ∙ self ∙ e))
        ]
        | inr other ↦ f.waits_home a b (sym (at_other a b other) ∙ h)
      ];
      waits_ascend = λ a. either IsAscending (a == j) (with_one (v.waits j) k) (v.waits a) ascends (f.waits_ascend a);
      few_waits = λ a. either (λ l. length l ≤ most_waits) (a == j) (with_one (v.waits j) k) (v.waits a) few (f.few_waits a);
      no_stamp = no_stamp;
      stamps = λ a b. (begun a b, (f.stamps a b).1);
      no_marks = λ a i h. f.no_marks a i (was_active a h);
      undeclared = λ a h. f.undeclared a (was_active a h);
      owed_home = owed_here;
      leaving_away = f.leaving_away;
      local = local;
    }

-- ---- what is kept then

-- the controller takes the fact, and what it keeps then is kept as before
pub record Gets (Allowed : Type 0) (w : State) (c : Controller) (new : Kept) : Type 0 where
  pub takes : Takes Allowed w c (record c { kept = new })
  pub kept : IsKept (home_of c) c.site new

module _ (c : Controller) (kept : IsKept (home_of c) c.site c.kept) where
  abbrev home : ℕ → ℕ
  home = home_of c

  abbrev s : ℕ
  s = c.site

  abbrev v : Kept
  v = c.kept

  abbrev before : State
  before = state_of c

  gets : (Allowed : Type 0) (w : State) (new : Kept) → Allowed → state_kept home s new ≡ w → JournalFacts home s w → AsLarge v new → ((k j : ℕ) → pairs_of new.owed k j ≡ true → (home j ≢ 0) × (home j ≢ s))
      → ((p : ℕ) → stamps_of new.stamps p ≢ 0 → home p ≡ s) → Gets Allowed w c new
  gets Allowed w new allowed is facts large askers asked = record {
    takes = record { allowed = allowed; topology = refl; site = refl; state = is };
    kept = back_kept home s w v new kept facts is large askers asked;
  }

  pub gets_clock : (n : ℕ) → v.clock ≤ n → Gets (before.clock ≤ n) (with_clock before n) c (record v { clock = n })
  gets_clock n later = gets _ (with_clock before n) (record v { clock = n }) later refl (facts_clock home s before kept.facts n later)
      (record { members = refl; leaving = refl; owed = refl; marks = refl; declared = refl; stamps = refl }) kept.askers kept.asked

  pub gets_stamp : (p n : ℕ) (stamps : List ℕ) → MayStamp home s before p n → stamps_of stamps ≡ set_at (stamps_of v.stamps) p n → length stamps ≡ length v.stamps
      → Gets (MayStamp home s before p n) (with_stamp before p n) c (record v { stamps = stamps })
  gets_stamp p n stamps may set room = gets _ (with_stamp before p n) (record v { stamps = stamps }) may
      (kept_is home s _ (with_stamp before p n) refl refl refl refl refl refl refl set) (facts_stamp home s before kept.facts p n may)
      (record { members = refl; leaving = refl; owed = refl; marks = refl; declared = refl; stamps = room }) kept.askers (asked_at home s (stamps_of v.stamps) (stamps_of stamps) p n may.0 set kept.asked)

  pub gets_leaving : (j k : ℕ) (leaving : List (List ℕ)) → MayLeave home s j k → pairs_of leaving ≡ set_pair (pairs_of v.leaving) j k true → length leaving ≡ length v.leaving
      → Gets (MayLeave home s j k) (with_leaving before j k) c (record v { leaving = leaving })
  gets_leaving j k leaving apart set room = gets _ (with_leaving before j k) (record v { leaving = leaving }) apart
      (kept_is home s _ (with_leaving before j k) refl refl set refl refl refl refl refl) (facts_leaving home s before kept.facts j k apart)
      (record { members = refl; leaving = room; owed = refl; marks = refl; declared = refl; stamps = refl }) kept.askers kept.asked

  pub gets_owed : (k j : ℕ) (owed : List (List ℕ)) → MayOwe home s before k j → home j ≢ s → pairs_of owed ≡ set_pair (pairs_of v.owed) k j true → length owed ≡ length v.owed
      → Gets (MayOwe home s before k j) (with_owed before k j) c (record v { owed = owed })
  gets_owed k j owed may away set room = gets _ (with_owed before k j) (record v { owed = owed }) may
      (kept_is home s _ (with_owed before k j) refl refl refl (owed_set home s v.waits v.owed owed k j true away set) refl refl refl refl) (facts_owed home s before kept.facts k j may.0 away)
      (record { members = refl; leaving = refl; owed = room; marks = refl; declared = refl; stamps = refl }) (askers_more home s v.owed owed k j kept.askers may.1 away set) kept.asked

  -- between two processes of the site it is owed already
  pub owes_already : (k j : ℕ) → MayOwe home s before k j → home j ≡ s → Takes (MayOwe home s before k j) (with_owed before k j) c c
  owes_already k j may at = record {
    allowed = may;
    topology = refl;
    site = refl;
    state = kept_is home s v (with_owed before k j) refl refl refl (fun_ext λ x. fun_ext λ y. go x y ((x == k) && (y == j)) refl) refl refl refl refl;
  }
    where
      owed : before.owed k j ≡ true
      owed = sym (kept.facts.local j k at may.0) ∙ may.2 at

      go : (x y : ℕ) (z : Bool) → ((x == k) && (y == j)) ≡ z → before.owed x y ≡ (if z then true else before.owed x y)
      go x y true e =
          let parts = and_parts (x == k) (y == j) e in
          ap (λ q. before.owed q y) (eqb-true x k parts.0) ∙ ap (before.owed k) (eqb-true y j parts.1) ∙ owed
      go x y false e = refl

  pub gets_mark : (k i n : ℕ) (marks : List (List Mark)) → is_blocked before k ≡ true → marks_of marks ≡ set_at (marks_of v.marks) k (set_at (marks_of v.marks k) i n) → length marks ≡ length v.marks
      → Gets (is_blocked before k ≡ true) (with_mark before k i n) c (record v { marks = marks })
  gets_mark k i n marks blocked set room = gets _ (with_mark before k i n) (record v { marks = marks }) blocked
      (kept_is home s _ (with_mark before k i n) refl refl refl refl set refl refl refl) (facts_mark home s before kept.facts k i n blocked)
      (record { members = refl; leaving = refl; owed = refl; marks = room; declared = refl; stamps = refl }) kept.askers kept.asked

  pub gets_declared : (i : ℕ) (declared : List Bool) → is_blocked before i ≡ true → flags_of declared ≡ set_at (flags_of v.declared) i true → length declared ≡ length v.declared
      → Gets (is_blocked before i ≡ true) (with_declared before i) c (record v { declared = declared })
  gets_declared i declared blocked set room = gets _ (with_declared before i) (record v { declared = declared }) blocked
      (kept_is home s _ (with_declared before i) refl refl refl refl refl set refl refl) (facts_declared home s before kept.facts i blocked)
      (record { members = refl; leaving = refl; owed = refl; marks = refl; declared = room; stamps = refl }) kept.askers kept.asked

  pub gets_wait : (j k n : ℕ) (waits : Held) → MayWait home s before j k n → waits.members ≡ v.waits.members
      → waits_of waits ≡ set_at (waits_of v.waits) j (with_each (waits_of v.waits j) (k ∷ []))
      → since_of waits ≡ (λ x y. if (x == j) && in_list (k ∷ []) y then n else since_of v.waits x y)
      → Gets (MayWait home s before j k n) (with_wait home s before j k n) c (record v { waits = waits })
  gets_wait j k n waits may members set since = gets _ (with_wait home s before j k n) (record v { waits = waits }) may
      (kept_is home s _ (with_wait home s before j k n) set begun refl (owed_again ∙ ap (λ (f : ℕ → List ℕ). owed_back home s f before.owed) set) refl refl refl refl)
      (facts_wait home s before kept.facts j k n may)
      (record { members = members; leaving = refl; owed = refl; marks = refl; declared = refl; stamps = refl }) kept.askers kept.asked
    where
      begun : since_of waits ≡ (λ x y. if (x == j) && (y == k) then n else since_of v.waits x y)
      begun = since ∙ fun_ext (λ x. fun_ext λ y. ap (λ z. if (x == j) && z then n else since_of v.waits x y) (one_in k y))

      owed_again : owed_of home s waits v.owed ≡ owed_back home s (waits_of waits) before.owed
      owed_again = fun_ext λ x. fun_ext λ y. go x y (home y == s)
        where
          go : (x y : ℕ) (z : Bool) → (if z then (home x == s) && in_list (waits_of waits y) x else pairs_of v.owed x y)
              ≡ (if z then (home x == s) && in_list (waits_of waits y) x else (if z then (home x == s) && in_list (waits_of v.waits y) x else pairs_of v.owed x y))
          go x y true = refl
          go x y false = refl

  -- a blocked process is one of the site
  pub blocked_here : (k : ℕ) → is_blocked before k ≡ true → home k ≡ s
  blocked_here k blocked = let some = some_in (before.waits k) blocked in (kept.facts.waits_home k some.0 some.1).0
