-- What is kept after an event is the state that the rules lead to.
use Rattle.std.proofs.Common.{◌≡◌, ◌≢◌, ℕ, ◌+◌, ◌<◌, max, Bool, true, false, not, ◌&&◌, ◌||◌, List, ◌==◌, if◌then◌else◌, Option, None, Some, refl, sym, ap, ◌∙◌, inl, inr, arith}
use Rattle.std.proofs.Math.Path.{fun_ext}
use Rattle.std.proofs.lemmas.Bool.{cases_eq, eqb-true, eq-eqb, ne_eqb, and_parts, true≢false, false_from_ne_true}
use Rattle.cmh_model3.specs.declared.frame.Frame.TheVariants.{Request, Reply as Reply_frame, Withdraw as Withdraw_frame, Probe}
use Rattle.cmh_model3.specs.declared.event.Event.TheVariants.{Ask, Reply, Withdraw, Got, Turn}
use Rattle.cmh_model3.specs.Lists.{in_list, is_nonempty, set_at, set_pair, with_each, without, without_all}
use Rattle.cmh_model3.specs.State.{State, waits_for, with_waits}
use Rattle.cmh_model3.specs.Rules.{after, declared_after, probe_acts, targets_away, targets_here}
use Rattle.cmh_model3.proofs.Counts.{and_no, in_minus, in_with, without_other, without_same}
use Rattle.cmh_waits3.specs.Held.{Held, since_of, waits_of}
use Rattle.cmh_controller3.specs.declared.mark_row.Mark.{Mark}
use Rattle.cmh_controller3.specs.Controller.{Kept, owed_of, state_kept}
use Rattle.cmh_controller3.specs.Tables.{flags_of, marks_of, pairs_of, stamps_of}

-- a state is its fields
pub kept_is : (home : ℕ → ℕ) (s : ℕ) (new : Kept) (v : State) → waits_of new.waits ≡ v.waits → since_of new.waits ≡ v.since → pairs_of new.leaving ≡ v.leaving
    → owed_of home s new.waits new.owed ≡ v.owed → marks_of new.marks ≡ v.marks → flags_of new.declared ≡ v.declared → new.clock ≡ v.clock → stamps_of new.stamps ≡ v.stamp
    → state_kept home s new ≡ v
kept_is home s new v a b c d e f g h = λ i. record { waits = a i; since = b i; leaving = c i; owed = d i; marks = e i; declared = f i; clock = g i; stamp = h i }

-- ---- what is owed

-- one choice before another, where both are not made
swap : (z w b x y : Bool) → (z ≡ true → w ≡ false) → (if z then x else (if w then b else y)) ≡ (if w then b else (if z then x else y))
swap false w b x y h = refl
swap true false b x y h = refl
swap true true b x y h = absurd (true≢false (h refl))

module _ (home : ℕ → ℕ) (s : ℕ) (waits : Held) where
  -- another row of one at another site
  pub owed_set : (old new : List (List ℕ)) (k j : ℕ) (b : Bool) → home j ≢ s → pairs_of new ≡ set_pair (pairs_of old) k j b → owed_of home s waits new ≡ set_pair (owed_of home s waits old) k j b
  owed_set old new k j b away row = fun_ext λ x. fun_ext λ y.
      ap (λ (f : ℕ → ℕ → Bool). if home y == s then (home x == s) && in_list (waits_of waits y) x else f x y) row
      ∙ swap (home y == s) ((x == k) && (y == j)) b ((home x == s) && in_list (waits_of waits y) x) (pairs_of old x y)
      (λ here. false_from_ne_true _ (λ both. away (ap home (sym (eqb-true y j (and_parts (x == k) (y == j) both).1)) ∙ eqb-true (home y) s here)))

-- the waits of j within the site are others
module _ (home : ℕ → ℕ) (s : ℕ) (waits new : Held) (owed : List (List ℕ)) (j : ℕ) (ks : List ℕ) (at : home j ≡ s) (set : waits_of new ≡ set_at (waits_of waits) j ks) where
  set_there : (x y : ℕ) → y ≡ j → owed_of home s new owed x y ≡ ((home x == s) && in_list ks x)
  set_there x y e =
      ap (λ z. if z then (home x == s) && in_list (waits_of new y) x else pairs_of owed x y) (eq-eqb (home y) s (ap home e ∙ at))
      ∙ ap (λ (f : ℕ → List ℕ). (home x == s) && in_list (f y) x) set
      ∙ ap (λ z. (home x == s) && in_list (if z then ks else waits_of waits y) x) (eq-eqb y j e)

  was_there : (x y : ℕ) → y ≡ j → owed_of home s waits owed x y ≡ ((home x == s) && in_list (waits_of waits j) x)
  was_there x y e =
      ap (λ z. if z then (home x == s) && in_list (waits_of waits y) x else pairs_of owed x y) (eq-eqb (home y) s (ap home e ∙ at))
      ∙ ap (λ q. (home x == s) && in_list (waits_of waits q) x) e

  elsewhere : (x y : ℕ) → y ≢ j → owed_of home s new owed x y ≡ owed_of home s waits owed x y
  elsewhere x y n =
      ap (λ (f : ℕ → List ℕ). if home y == s then (home x == s) && in_list (f y) x else pairs_of owed x y) set
      ∙ ap (λ z. if home y == s then (home x == s) && in_list (if z then ks else waits_of waits y) x else pairs_of owed x y) (ne_eqb y j n)

  -- where the others are those of this test besides the waits that were there
  pub owed_more : (test : ℕ → ℕ → Bool) → ((x y : ℕ) → y ≢ j → test x y ≡ false) → ((x : ℕ) → ((home x == s) && in_list ks x) ≡ (test x j || ((home x == s) && in_list (waits_of waits j) x)))
      → owed_of home s new owed ≡ (λ x y. test x y || owed_of home s waits owed x y)
  owed_more test none more = fun_ext λ x. fun_ext λ y. elim (cases_eq y j) [
    | inl e ↦ set_there x y e ∙ more x ∙ ap (λ q. test x q || ((home x == s) && in_list (waits_of waits j) x)) (sym e) ∙ ap (λ z. test x y || z) (sym (was_there x y e))
    | inr n ↦ elsewhere x y n ∙ ap (λ z. z || owed_of home s waits owed x y) (sym (none x y n))
  ]

  -- where they are those without these
  pub owed_less : (test : ℕ → ℕ → Bool) → ((x y : ℕ) → y ≢ j → test x y ≡ false) → ((x : ℕ) → ((home x == s) && in_list ks x) ≡ (not (test x j) && ((home x == s) && in_list (waits_of waits j) x)))
      → owed_of home s new owed ≡ (λ x y. not (test x y) && owed_of home s waits owed x y)
  owed_less test none less = fun_ext λ x. fun_ext λ y. elim (cases_eq y j) [
    | inl e ↦ set_there x y e ∙ less x ∙ ap (λ q. not (test x q) && ((home x == s) && in_list (waits_of waits j) x)) (sym e) ∙ ap (λ z. not (test x y) && z) (sym (was_there x y e))
    | inr n ↦ elsewhere x y n ∙ ap (λ z. not z && owed_of home s waits owed x y) (sym (none x y n))
  ]

  -- and where they are the same within the site
  pub owed_same : ((x : ℕ) → ((home x == s) && in_list ks x) ≡ ((home x == s) && in_list (waits_of waits j) x)) → owed_of home s new owed ≡ owed_of home s waits owed
  owed_same same = fun_ext λ x. fun_ext λ y. elim (cases_eq y j) [
    | inl e ↦ set_there x y e ∙ same x ∙ sym (was_there x y e)
    | inr n ↦ elsewhere x y n
  ]

-- ---- the state afterwards

-- the rest of what comes of an event, where nobody is declared
abbrev finish : State → ℕ → State
finish w c = record w { clock = c }

if_not : (w b : Bool) → (if w then false else b) ≡ (not w && b)
if_not true b = refl
if_not false b = refl

module _ (home : ℕ → ℕ) (s : ℕ) (v : Kept) where
  abbrev before : State
  before = state_kept home s v

  pub after_request : (owed : List (List ℕ)) (a c j k : ℕ) → home j ≢ s → pairs_of owed ≡ set_pair (pairs_of v.owed) k j true
      → state_kept home s (record v { owed = owed; clock = max v.clock c }) ≡ after home s before (Got a c (Request j k)) None
  after_request owed a c j k away row = kept_is home s _ _ refl refl refl (owed_set home s v.waits v.owed owed k j true away row) refl refl refl refl

  pub after_turn : (c : ℕ) → v.clock < c → state_kept home s (record v { clock = c }) ≡ after home s before (Turn c) None
  after_turn c h =
      let later : c ≡ max v.clock c = omega arith in
      kept_is home s _ _ refl refl refl refl refl refl later refl

  pub after_withdraw_owed : (owed : List (List ℕ)) (a c j k : ℕ) → home j ≢ s → pairs_of owed ≡ set_pair (pairs_of v.owed) k j false
      → state_kept home s (record v { owed = owed; clock = max v.clock c }) ≡ after home s before (Got a c (Withdraw_frame j k)) None
  after_withdraw_owed owed a c j k away row = kept_is home s _ _ refl refl refl (owed_set home s v.waits v.owed owed k j false away row) refl refl refl refl

  pub after_reply_away : (owed : List (List ℕ)) (k j : ℕ) → home j ≢ s → pairs_of owed ≡ set_pair (pairs_of v.owed) k j false
      → state_kept home s (record v { owed = owed }) ≡ after home s before (Reply k j) None
  after_reply_away owed k j away row =
      let answered : State = record before { owed = set_pair before.owed k j false } in
      kept_is home s _ (finish answered v.clock) refl refl refl (owed_set home s v.waits v.owed owed k j false away row) refl refl refl refl
      ∙ ap (λ z. finish (if z then with_waits answered j (without (before.waits j) k) else answered) v.clock) (sym (ne_eqb (home j) s away))

  pub after_left : (leaving : List (List ℕ)) (a c k j : ℕ) → waits_for before j k ≡ false → pairs_of leaving ≡ set_pair (pairs_of v.leaving) j k false
      → state_kept home s (record v { leaving = leaving; clock = max v.clock c }) ≡ after home s before (Got a c (Reply_frame k j)) None
  after_left leaving a c k j none row =
      let left : State = record before { leaving = set_pair before.leaving j k false } in
      kept_is home s _ (finish left (max v.clock c)) refl refl row refl refl refl refl refl
      ∙ ap (λ z. finish (if z then with_waits before j (without (before.waits j) k) else left) (max v.clock c)) (sym none)

  pub after_ignored : (a c i n j k : ℕ) → probe_acts before i n j k ≡ false
      → state_kept home s (record v { clock = max v.clock c }) ≡ after home s before (Got a c (Probe i n j k)) None
  after_ignored a c i n j k none =
      let marked : State = record before { marks = set_at before.marks k (set_at (before.marks k) i n) } in
      kept_is home s _ (finish before (max v.clock c)) refl refl refl refl refl refl refl refl
      ∙ ap (λ z. finish (if z then marked else before) (max v.clock c)) (sym none)

  -- The waits of j are now these. Where there are none its marks and its declaration are forgotten.
  pub record Woken (j : ℕ) (ks : List ℕ) (waits : Held) (marks : List (List Mark)) (declared : List Bool) : Type 0 where
    pub set : waits_of waits ≡ set_at (waits_of v.waits) j ks
    pub stamped : since_of waits ≡ set_at (since_of v.waits) j (λ q. if in_list ks q then since_of v.waits j q else 0)
    pub marked : marks_of marks ≡ (if is_nonempty ks then marks_of v.marks else set_at (marks_of v.marks) j (λ i. 0))
    pub flagged : flags_of declared ≡ (if is_nonempty ks then flags_of v.declared else set_at (flags_of v.declared) j false)

  pub woken : (j : ℕ) (ks : List ℕ) (waits : Held) (marks : List (List Mark)) (declared : List Bool) (blocked : Bool)
      → waits_of waits ≡ set_at (waits_of v.waits) j ks → since_of waits ≡ set_at (since_of v.waits) j (λ q. if in_list ks q then since_of v.waits j q else 0)
      → blocked ≡ is_nonempty (waits_of waits j)
      → marks_of marks ≡ (if blocked then marks_of v.marks else set_at (marks_of v.marks) j (λ i. 0))
      → flags_of declared ≡ (if blocked then flags_of v.declared else set_at (flags_of v.declared) j false) → Woken j ks waits marks declared
  woken j ks waits marks declared blocked set since is marks_are declared_are =
      let same : blocked ≡ is_nonempty ks = is ∙ ap (λ (f : ℕ → List ℕ). is_nonempty (f j)) set ∙ ap (λ z. is_nonempty (if z then ks else waits_of v.waits j)) (eq-eqb j j refl) in
      record {
        set = set;
        stamped = since;
        marked = marks_are ∙ ap (λ (z : Bool). if z then marks_of v.marks else set_at (marks_of v.marks) j (λ i. 0)) same;
        flagged = declared_are ∙ ap (λ (z : Bool). if z then flags_of v.declared else set_at (flags_of v.declared) j false) same;
      }

  -- whether x is k, and y is j
  none_other : (k j x y : ℕ) → y ≢ j → ((x == k) && (y == j)) ≡ false
  none_other k j x y n = ap (λ z. (x == k) && z) (ne_eqb y j n) ∙ and_no (x == k)

  pub after_reply_here : (k j : ℕ) (waits : Held) (marks : List (List Mark)) (declared : List Bool) → home j ≡ s → Woken j (without (waits_of v.waits j) k) waits marks declared
      → state_kept home s (record v { waits = waits; marks = marks; declared = declared }) ≡ after home s before (Reply k j) None
  after_reply_here k j waits marks declared at w =
      let answered : State = record before { owed = set_pair before.owed k j false } in
      let owed = owed_less home s v.waits waits v.owed j (without (waits_of v.waits j) k) at w.set (λ x y. (x == k) && (y == j)) (none_other k j) less
      ∙ fun_ext (λ x. fun_ext λ y. sym (if_not ((x == k) && (y == j)) (owed_of home s v.waits v.owed x y))) in
      kept_is home s _ (finish (with_waits answered j (without (before.waits j) k)) v.clock) w.set w.stamped refl owed w.marked w.flagged refl refl
      ∙ ap (λ z. finish (if z then with_waits answered j (without (before.waits j) k) else answered) v.clock) (sym (eq-eqb (home j) s at))
    where
      less : (x : ℕ) → ((home x == s) && in_list (without (waits_of v.waits j) k) x) ≡ (not ((x == k) && (j == j)) && ((home x == s) && in_list (waits_of v.waits j) x))
      less x = elim (cases_eq x k) [
        | inl e ↦
            ap (λ q. (home x == s) && in_list (without (waits_of v.waits j) k) q) e ∙ ap (λ z. (home x == s) && z) (without_same (waits_of v.waits j) k) ∙ and_no (home x == s)
            ∙ sym (ap (λ z. not (z && (j == j)) && ((home x == s) && in_list (waits_of v.waits j) x)) (eq-eqb x k e)
            ∙ ap (λ z. not z && ((home x == s) && in_list (waits_of v.waits j) x)) (eq-eqb j j refl))
        | inr n ↦
            ap (λ z. (home x == s) && z) (without_other (waits_of v.waits j) k x (λ e. n (sym e)))
            ∙ sym (ap (λ z. not (z && (j == j)) && ((home x == s) && in_list (waits_of v.waits j) x)) (ne_eqb x k n))
      ]

  pub after_got_reply : (a c k j : ℕ) (waits : Held) (marks : List (List Mark)) (declared : List Bool) → home j ≡ s → home k ≢ s → waits_for before j k ≡ true
      → Woken j (without (waits_of v.waits j) k) waits marks declared
      → state_kept home s (record v { waits = waits; marks = marks; declared = declared; clock = max v.clock c }) ≡ after home s before (Got a c (Reply_frame k j)) None
  after_got_reply a c k j waits marks declared at far waited w =
      let left : State = record before { leaving = set_pair before.leaving j k false } in
      let owed = owed_same home s v.waits waits v.owed j (without (waits_of v.waits j) k) at w.set same in
      kept_is home s _ (finish (with_waits before j (without (before.waits j) k)) (max v.clock c)) w.set w.stamped refl owed w.marked w.flagged refl refl
      ∙ ap (λ z. finish (if z then with_waits before j (without (before.waits j) k) else left) (max v.clock c)) (sym waited)
    where
      same : (x : ℕ) → ((home x == s) && in_list (without (waits_of v.waits j) k) x) ≡ ((home x == s) && in_list (waits_of v.waits j) x)
      same x = elim (cases_eq x k) [
        | inl e ↦
            let out = ne_eqb (home x) s (λ h. far (ap home (sym e) ∙ h)) in
            ap (λ z. z && in_list (without (waits_of v.waits j) k) x) out ∙ sym (ap (λ z. z && in_list (waits_of v.waits j) x) out)
        | inr n ↦ ap (λ z. (home x == s) && z) (without_other (waits_of v.waits j) k x (λ e. n (sym e)))
      ]

  pub after_withdraw : (j : ℕ) (ks : List ℕ) (waits : Held) (leaving : List (List ℕ)) (marks : List (List Mark)) (declared : List Bool) (row : List ℕ) → home j ≡ s
      → ((k : ℕ) → in_list row k ≡ ((not (home k == s) && in_list ks k) || pairs_of v.leaving j k)) → pairs_of leaving ≡ set_at (pairs_of v.leaving) j (in_list row)
      → Woken j (without_all (waits_of v.waits j) ks) waits marks declared
      → state_kept home s (record v { waits = waits; leaving = leaving; marks = marks; declared = declared }) ≡ after home s before (Withdraw j ks) None
  after_withdraw j ks waits leaving marks declared row at more put w =
      let owed = owed_less home s v.waits waits v.owed j (without_all (waits_of v.waits j) ks) at w.set (λ x y. targets_here home s j ks y x) others less in
      kept_is home s _ _ w.set w.stamped (put ∙ fun_ext (λ i. fun_ext λ k. left i k)) owed w.marked w.flagged refl refl
    where
      others : (x y : ℕ) → y ≢ j → targets_here home s j ks y x ≡ false
      others x y n = ap (λ z. (z && (home x == s)) && in_list ks x) (ne_eqb y j n)

      less_by : (h a b : Bool) → (h && (a && not b)) ≡ (not (h && b) && (h && a))
      less_by true true true = refl
      less_by true true false = refl
      less_by true false true = refl
      less_by true false false = refl
      less_by false a b = refl

      less : (x : ℕ) → ((home x == s) && in_list (without_all (waits_of v.waits j) ks) x) ≡ (not (targets_here home s j ks j x) && ((home x == s) && in_list (waits_of v.waits j) x))
      less x =
          ap (λ z. (home x == s) && z) (in_minus (waits_of v.waits j) ks x) ∙ less_by (home x == s) (in_list (waits_of v.waits j) x) (in_list ks x)
          ∙ sym (ap (λ z. not ((z && (home x == s)) && in_list ks x) && ((home x == s) && in_list (waits_of v.waits j) x)) (eq-eqb j j refl))

      left : (i k : ℕ) → set_at (pairs_of v.leaving) j (in_list row) i k ≡ (targets_away home s j ks i k || pairs_of v.leaving i k)
      left i k = elim (cases_eq i j) [
        | inl e ↦
            ap (λ (z : Bool). (if z then in_list row else pairs_of v.leaving i) k) (eq-eqb i j e) ∙ more k
            ∙ ap (λ q. (not (home k == s) && in_list ks k) || pairs_of v.leaving q k) (sym e)
            ∙ sym (ap (λ z. ((z && not (home k == s)) && in_list ks k) || pairs_of v.leaving i k) (eq-eqb i j e))
        | inr n ↦
            ap (λ (z : Bool). (if z then in_list row else pairs_of v.leaving i) k) (ne_eqb i j n)
            ∙ sym (ap (λ z. ((z && not (home k == s)) && in_list ks k) || pairs_of v.leaving i k) (ne_eqb i j n))
      ]

  pub after_ask : (j : ℕ) (ks : List ℕ) (waits : Held) (declared : List Bool) (stamps : List ℕ) (deadlocked : Bool) → home j ≡ s
      → waits_of waits ≡ set_at (waits_of v.waits) j (with_each (waits_of v.waits j) ks)
      → since_of waits ≡ (λ x y. if (x == j) && in_list ks y then v.clock + 1 else since_of v.waits x y)
      → flags_of declared ≡ set_at (flags_of v.declared) j deadlocked → stamps_of stamps ≡ set_at (stamps_of v.stamps) j (v.clock + 1)
      → state_kept home s (record v { waits = waits; declared = declared; stamps = stamps; clock = v.clock + 1 })
      ≡ after home s before (Ask j ks) (if deadlocked then Some j else None)
  after_ask j ks waits declared stamps deadlocked at set since flags stamped =
      let owed = owed_more home s v.waits waits v.owed j (with_each (waits_of v.waits j) ks) at set (λ x y. targets_here home s j ks y x) others more in
      go deadlocked flags owed
    where
      others : (x y : ℕ) → y ≢ j → targets_here home s j ks y x ≡ false
      others x y n = ap (λ z. (z && (home x == s)) && in_list ks x) (ne_eqb y j n)

      more_by : (h a b : Bool) → (h && (a || b)) ≡ ((h && b) || (h && a))
      more_by true true true = refl
      more_by true true false = refl
      more_by true false true = refl
      more_by true false false = refl
      more_by false a b = refl

      more : (x : ℕ) → ((home x == s) && in_list (with_each (waits_of v.waits j) ks) x) ≡ (targets_here home s j ks j x || ((home x == s) && in_list (waits_of v.waits j) x))
      more x =
          ap (λ z. (home x == s) && z) (in_with (waits_of v.waits j) ks x) ∙ more_by (home x == s) (in_list (waits_of v.waits j) x) (in_list ks x)
          ∙ sym (ap (λ z. ((z && (home x == s)) && in_list ks x) || ((home x == s) && in_list (waits_of v.waits j) x)) (eq-eqb j j refl))

      again : (x : Bool) (f : ℕ → Bool) (q : ℕ) → (if q == j then x else f q) ≡ (if q == j then x else (if q == j then false else f q))
      again x f q = by (q == j)
        where
          by : (z : Bool) → (if z then x else f q) ≡ (if z then x else (if z then false else f q))
          by true = refl
          by false = refl

      go : (b : Bool) → flags_of declared ≡ set_at (flags_of v.declared) j b → owed_of home s waits v.owed ≡ (λ k i. targets_here home s j ks i k || owed_of home s v.waits v.owed k i)
          → state_kept home s (record v { waits = waits; declared = declared; stamps = stamps; clock = v.clock + 1 }) ≡ after home s before (Ask j ks) (if b then Some j else None)
      go true is owed = kept_is home s _ _ set since refl owed refl (is ∙ fun_ext (again true (flags_of v.declared))) refl stamped
      go false is owed = kept_is home s _ _ set since refl owed refl is refl stamped

  pub after_probe : (a c i n j k : ℕ) (marks : List (List Mark)) (declared : List Bool) (d : Option ℕ) → probe_acts before i n j k ≡ true
      → marks_of marks ≡ set_at (marks_of v.marks) k (set_at (marks_of v.marks k) i n) → flags_of declared ≡ declared_after (flags_of v.declared) d
      → state_kept home s (record v { marks = marks; declared = declared; clock = max v.clock c }) ≡ after home s before (Got a c (Probe i n j k)) d
  after_probe a c i n j k marks declared d acts put flags =
      let marked : State = record before { marks = set_at before.marks k (set_at (before.marks k) i n) } in
      let declares = λ (w : State). let u : State = record w { declared = declared_after w.declared d; clock = max v.clock c } in u in
      kept_is home s _ (declares marked) refl refl refl refl put flags refl refl
      ∙ ap (λ z. declares (if z then marked else before)) (sym acts)
