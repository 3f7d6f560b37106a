-- The way back from a first half.
use Rattle.std.proofs.Common.{◌≡◌, ◌≢◌, ℕ, ◌+◌, ◌<◌, max, Bool, true, false, not, ◌&&◌, ◌||◌, List, [], ◌==◌, if◌then◌else◌, ltb, Option, None, Some, MatchBool, refl, sym, ap, ◌∙◌, subst, inl, inr, ◌⊎◌, arith}
use Rattle.std.proofs.Math.Path.{fun_ext}
use Rattle.std.proofs.lemmas.Bool.{and_parts, cases_eq, eq-eqb, eqb-true, ltb-true, ne_eqb, true≢false}
use Rattle.cmh_model3.specs.declared.frame.Frame.TheVariants.{Request, Probe}
use Rattle.cmh_model3.specs.declared.frame.Message.{Message}
use Rattle.cmh_model3.specs.declared.event.Event.TheVariants.{Ask, Got, Withdraw}
use Rattle.cmh_model3.specs.Laws.{JournalFacts}
use Rattle.cmh_model3.specs.Lists.{in_list, set_at, set_pair, with_each, without_all}
use Rattle.cmh_model3.specs.State.{State, passes, waits_for}
use Rattle.cmh_model3.specs.Paths.{ReachesLocally}
use Rattle.cmh_model3.specs.Rules.{Accepts, DeclaresOrProbes, Sends, after, declared_after, newly, probe_acts, targets_away, targets_here}
use Rattle.cmh_model3.proofs.Ascending.{each_ascends, without_all_ascends}
use Rattle.cmh_model3.proofs.Counts.{and_no, in_minus, in_with}
use Rattle.cmh_waits3.specs.Held.{Held, since_of, waits_of}
use Rattle.cmh_waits3.proofs.Lists.{same_ascending}
use Rattle.cmh_controller3.specs.declared.mark_row.Mark.{Mark}
use Rattle.cmh_controller3.specs.Controller.{Kept, state_kept}
use Rattle.cmh_controller3.specs.Inner.Kept.{HasRoom, IsKept}
use Rattle.cmh_controller3.specs.Steps.{prepared_state}
use Rattle.cmh_controller3.specs.Tables.{flags_of, marks_of, pairs_of, stamps_of}
use Rattle.cmh_controller3.proofs.After.{kept_is, owed_less, owed_set}
use Rattle.cmh_controller3.proofs.Kept.{AsLarge}

-- what every controller keeps holds of what has led back to a state in which it held
pub back_kept : (home : ℕ → ℕ) (s : ℕ) (v : State) (mid new : Kept) → IsKept home s mid → JournalFacts home s v → state_kept home s new ≡ v
    → AsLarge mid new → ((k j : ℕ) → pairs_of new.owed k j ≡ true → (home j ≢ 0) × (home j ≢ s)) → ((p : ℕ) → stamps_of new.stamps p ≢ 0 → home p ≡ s) → IsKept home s new
back_kept home s v mid new kept facts is large askers asked = record {
  site = kept.site;
  facts = subst (JournalFacts home s) (sym is) facts;
  members = λ p. kept.members p ∙ ap (λ ms. in_list ms p) (sym large.members);
  askers = askers;
  asked = asked;
  leaving_room = subst (HasRoom home s) (sym large.leaving) kept.leaving_room;
  owed_room = subst (HasRoom home s) (sym large.owed) kept.owed_room;
  marks_room = subst (HasRoom home s) (sym large.marks) kept.marks_room;
  declared_room = subst (HasRoom home s) (sym large.declared) kept.declared_room;
  stamps_room = subst (HasRoom home s) (sym large.stamps) kept.stamps_room;
}

-- ---- a value that was set, and set back

pub set_back : {X : Type 0} (f : ℕ → X) (a : ℕ) (x y : X) → y ≡ f a → set_at (set_at f a x) a y ≡ f
set_back f a x y is = fun_ext λ p. elim (cases_eq p a) [
  | inl e ↦ ap (λ z. if z then y else (if z then x else f p)) (eq-eqb p a e) ∙ is ∙ ap f (sym e)
  | inr n ↦ ap (λ z. if z then y else (if z then x else f p)) (ne_eqb p a n)
]

pub set_same : {X : Type 0} (f : ℕ → X) (a : ℕ) (y : X) → y ≡ f a → set_at f a y ≡ f
set_same f a y is = fun_ext λ p. elim (cases_eq p a) [
  | inl e ↦ ap (λ z. if z then y else f p) (eq-eqb p a e) ∙ is ∙ ap f (sym e)
  | inr n ↦ ap (λ z. if z then y else f p) (ne_eqb p a n)
]

-- what is set at one, there and elsewhere
at_it : (f : ℕ → ℕ → ℕ) (g : ℕ → ℕ) (j x y : ℕ) → x ≡ j → set_at f j g x y ≡ g y
at_it f g j x y e = ap (λ (z : Bool). (if z then g else f x) y) (eq-eqb x j e)

at_other : (f : ℕ → ℕ → ℕ) (g : ℕ → ℕ) (j x y : ℕ) → x ≢ j → set_at f j g x y ≡ f x y
at_other f g j x y n = ap (λ (z : Bool). (if z then g else f x) y) (ne_eqb x j n)

pair_back : (f : ℕ → ℕ → Bool) (k j : ℕ) → f k j ≡ false → set_pair (set_pair f k j true) k j false ≡ f
pair_back f k j none = fun_ext λ x. fun_ext λ y. go x y ((x == k) && (y == j)) refl
  where
    go : (x y : ℕ) (z : Bool) → ((x == k) && (y == j)) ≡ z → (if z then false else (if z then true else f x y)) ≡ f x y
    go x y false e = refl
    go x y true e =
        let parts = and_parts (x == k) (y == j) e in
        sym (ap (λ q. f q y) (eqb-true x k parts.0) ∙ ap (f k) (eqb-true y j parts.1) ∙ none)

-- a mark of k, at whatever it was set
mark_back : (marks : ℕ → ℕ → ℕ) (k i n m : ℕ) → m ≡ marks k i → set_at (set_at marks k (set_at (marks k) i n)) k (set_at (set_at marks k (set_at (marks k) i n) k) i m) ≡ marks
mark_back marks k i n m is =
    ap (λ (r : ℕ → ℕ). set_at (set_at marks k (set_at (marks k) i n)) k (set_at r i m)) (ap (λ (z : Bool). if z then set_at (marks k) i n else marks k) (eq-eqb k k refl))
    ∙ set_back marks k (set_at (marks k) i n) _ (set_back (marks k) i n m is)

mark_same : (marks : ℕ → ℕ → ℕ) (k i m : ℕ) → m ≡ marks k i → set_at marks k (set_at (marks k) i m) ≡ marks
mark_same marks k i m is = set_same marks k _ (set_same (marks k) i m is)

-- ---- what was declared

pub undeclared_none : (flags known : ℕ → Bool) (d : Option ℕ) → d ≡ None → flags ≡ declared_after known d → flags ≡ known
undeclared_none flags known d none is = is ∙ ap (declared_after known) none

pub undeclared_some : (flags back known : ℕ → Bool) (d : Option ℕ) (x : ℕ) → d ≡ Some x → known x ≡ false → flags ≡ declared_after known d → back ≡ set_at flags x false → back ≡ known
undeclared_some flags back known d x some new is undone =
    undone ∙ ap (λ (f : ℕ → Bool). set_at f x false) (is ∙ ap (declared_after known) some) ∙ set_back known x true false (sym new)

-- who is declared newly was not
newly_some : (v : State) (i x : ℕ) → newly v i ≡ Some x → v.declared x ≡ false
newly_some v i x h = go (v.declared i) refl h
  where
    same_some : (a b : ℕ) → Some a ≡ Some b → a ≡ b
    same_some a b e = cc

    none_some : (a : ℕ) → None ≡ Some a → ⊥
    none_some a e = cc

    go : (z : Bool) → v.declared i ≡ z → (if z then None else Some i) ≡ Some x → v.declared x ≡ false
    go true e h = absurd (none_some x h)
    go false e h = ap v.declared (sym (same_some i x h)) ∙ e

none_is_no : (x : ℕ) (d : Option ℕ) → d ≡ None → d ≡ Some x → ⊥
none_is_no x d none some = go (sym none ∙ some)
  where
    go : None ≡ Some x → ⊥
    go e = cc

module _ (home : ℕ → ℕ) (s : ℕ) (v : State) where
  pub probe_new : (a n i m j k : ℕ) (sent : List (ℕ × Message)) (d : Option ℕ) (x : ℕ) → Sends home s v (Got a n (Probe i m j k)) sent d → d ≡ Some x → v.declared x ≡ false
  probe_new a n i m j k sent d x sends some = go (probe_acts v i m j k) sends
    where
      go : (z : Bool) → MatchBool z (DeclaresOrProbes home (ReachesLocally home s v m i k i × (passes v m i i ≡ true)) s v (max v.clock n) i m k sent d) ((sent ≡ []) × (d ≡ None)) → v.declared x ≡ false
      go true (inl says) = newly_some v i x (sym says.2 ∙ some)
      go true (inr says) = absurd (none_is_no x d says.2 some)
      go false says = absurd (none_is_no x d says.1 some)

  -- an ask declares nobody, or its asker
  pub ask_declares : (j : ℕ) (ks : List ℕ) (sent : List (ℕ × Message)) (d : Option ℕ) → Sends home s v (Ask j ks) sent d → (d ≡ None) ⊎ (d ≡ Some j)
  ask_declares j ks sent d sends = elim sends.2 [
    | inl says ↦ inr (says.2 ∙ ap (λ (z : Bool). if (if z then false else v.declared j) then None else Some j) (eq-eqb j j refl))
    | inr says ↦ inl says.2
  ]

-- ---- each event

module _ (home : ℕ → ℕ) (s : ℕ) (v : State) (facts : JournalFacts home s v) (mid : Kept) where
  pub back_request : (a n j k : ℕ) (d : Option ℕ) (owed : List (List ℕ)) (clock : ℕ) → state_kept home s mid ≡ after home s v (Got a n (Request j k)) d → d ≡ None
      → home j ≢ s → v.owed k j ≡ false → pairs_of owed ≡ set_pair (pairs_of mid.owed) k j false → clock ≡ v.clock
      → state_kept home s (record mid { owed = owed; clock = clock }) ≡ v
  back_request a n j k d owed clock at none away free row earlier =
      let is = at ∙ ap (after home s v (Got a n (Request j k))) none in
      kept_is home s _ v (ap (λ (w : State). w.waits) is) (ap (λ (w : State). w.since) is) (ap (λ (w : State). w.leaving) is)
      (owed_set home s mid.waits mid.owed owed k j false away row ∙ ap (λ (w : State). set_pair w.owed k j false) is ∙ pair_back v.owed k j free)
      (ap (λ (w : State). w.marks) is) (ap (λ (w : State). w.declared) is) earlier (ap (λ (w : State). w.stamp) is)

  pub back_probe : (a n i m j k : ℕ) (d : Option ℕ) (marks : List (List Mark)) (declared : List Bool) (clock mark : ℕ) → state_kept home s mid ≡ after home s v (Got a n (Probe i m j k)) d
      → marks_of marks ≡ set_at (marks_of mid.marks) k (set_at (marks_of mid.marks k) i mark) → mark ≡ v.marks k i
      → (flags_of mid.declared ≡ declared_after v.declared d → flags_of declared ≡ v.declared) → clock ≡ v.clock
      → state_kept home s (record mid { marks = marks; declared = declared; clock = clock }) ≡ v
  back_probe a n i m j k d marks declared clock mark at put was undone earlier = go (probe_acts v i m j k) at
    where
      marked : State
      marked = record v { marks = set_at v.marks k (set_at (v.marks k) i m) }

      led : State → State
      led w = record w { declared = declared_after w.declared d; clock = max v.clock n }

      go : (z : Bool) → state_kept home s mid ≡ led (if z then marked else v) → state_kept home s (record mid { marks = marks; declared = declared; clock = clock }) ≡ v
      go true is = kept_is home s _ v (ap (λ (w : State). w.waits) is) (ap (λ (w : State). w.since) is) (ap (λ (w : State). w.leaving) is) (ap (λ (w : State). w.owed) is)
          (put ∙ ap (λ (w : State). set_at w.marks k (set_at (w.marks k) i mark)) is ∙ mark_back v.marks k i m mark was)
          (undone (ap (λ (w : State). w.declared) is)) earlier (ap (λ (w : State). w.stamp) is)
      go false is = kept_is home s _ v (ap (λ (w : State). w.waits) is) (ap (λ (w : State). w.since) is) (ap (λ (w : State). w.leaving) is) (ap (λ (w : State). w.owed) is)
          (put ∙ ap (λ (w : State). set_at w.marks k (set_at (w.marks k) i mark)) is ∙ mark_same v.marks k i mark was)
          (undone (ap (λ (w : State). w.declared) is)) earlier (ap (λ (w : State). w.stamp) is)

  -- a mark that is put back stands where there is one, or there was none
  pub some_mark : (a n i m j k : ℕ) (d : Option ℕ) (mark : ℕ) → state_kept home s mid ≡ after home s v (Got a n (Probe i m j k)) d → mark ≡ v.marks k i → marks_of mid.marks k i ≡ 0 → mark ≡ 0
  some_mark a n i m j k d mark at was none = go (probe_acts v i m j k) refl (ap (λ (w : State). w.marks k i) at)
    where
      marked : State
      marked = record v { marks = set_at v.marks k (set_at (v.marks k) i m) }

      led : State → State
      led w = record w { declared = declared_after w.declared d; clock = max v.clock n }

      acted : probe_acts v i m j k ≡ true → v.marks k i < m
      acted h = ltb-true (v.marks k i) m (and_parts (passes v m i k && v.owed k j) (ltb (v.marks k i) m) h).1

      go : (z : Bool) → probe_acts v i m j k ≡ z → marks_of mid.marks k i ≡ (led (if z then marked else v)).marks k i → mark ≡ 0
      go true acts is =
          let set : marks_of mid.marks k i ≡ m = is ∙ ap (λ (z : Bool). (if z then set_at (v.marks k) i m else v.marks k) i) (eq-eqb k k refl) ∙ ap (λ (z : Bool). if z then m else v.marks k i) (eq-eqb i i refl) in
          let below = acted acts in
          absurd (omega (arith, set, none, below))
      go false acts is = was ∙ sym is ∙ none

  pub back_withdraw : (j : ℕ) (ks : List ℕ) (d : Option ℕ) (leaving : List (List ℕ)) (row : List ℕ) → state_kept home s mid ≡ prepared_state home s v (Withdraw j ks) d
      → pairs_of leaving ≡ set_at (pairs_of mid.leaving) j (in_list row) → ((k : ℕ) → in_list row k ≡ v.leaving j k) → state_kept home s (record mid { leaving = leaving }) ≡ v
  back_withdraw j ks d leaving row is put was =
      kept_is home s _ v (ap (λ (w : State). w.waits) is) (ap (λ (w : State). w.since) is)
      (put ∙ ap (λ (w : State). set_at w.leaving j (in_list row)) is ∙ fun_ext (λ i. fun_ext λ k. left i k))
      (ap (λ (w : State). w.owed) is) (ap (λ (w : State). w.marks) is) (ap (λ (w : State). w.declared) is) (ap (λ (w : State). w.clock) is) (ap (λ (w : State). w.stamp) is)
    where
      left : (i k : ℕ) → set_at (λ x y. targets_away home s j ks x y || v.leaving x y) j (in_list row) i k ≡ v.leaving i k
      left i k = elim (cases_eq i j) [
        | inl e ↦ ap (λ (z : Bool). (if z then in_list row else (λ y. targets_away home s j ks i y || v.leaving i y)) k) (eq-eqb i j e) ∙ was k ∙ ap (λ q. v.leaving q k) (sym e)
        | inr n ↦
            ap (λ (z : Bool). (if z then in_list row else (λ y. targets_away home s j ks i y || v.leaving i y)) k) (ne_eqb i j n)
            ∙ ap (λ z. ((z && not (home k == s)) && in_list ks k) || v.leaving i k) (ne_eqb i j n)
      ]

  -- the waits that an ask began are those that it names, and it began no other
  module _ (j : ℕ) (ks : List ℕ) (accepted : Accepts home s v (Ask j ks)) where
    apart : (k : ℕ) → in_list ks k ≡ true → in_list (v.waits j) k ≡ false
    apart k h = (accepted.2.1 k h).2

    gone : without_all (with_each (v.waits j) ks) ks ≡ v.waits j
    gone = same_ascending _ _
        (without_all_ascends (with_each (v.waits j) ks) ks (each_ascends (v.waits j) ks (facts.waits_ascend j) accepted.2.0 apart)) (facts.waits_ascend j)
        (λ k. in_minus (with_each (v.waits j) ks) ks k ∙ ap (λ z. z && not (in_list ks k)) (in_with (v.waits j) ks k) ∙ minus (in_list (v.waits j) k) (in_list ks k) (apart k))
      where
        minus : (x y : Bool) → (y ≡ true → x ≡ false) → ((x || y) && not y) ≡ x
        minus true true h = sym (h refl)
        minus true false h = refl
        minus false true h = refl
        minus false false h = refl

    here : without_all (set_at v.waits j (with_each (v.waits j) ks) j) ks ≡ v.waits j
    here = ap (λ (z : Bool). without_all (if z then with_each (v.waits j) ks else v.waits j) ks) (eq-eqb j j refl) ∙ gone

    abbrev asked_since : ℕ → ℕ → ℕ
    asked_since x y = if (x == j) && in_list ks y then v.clock + 1 else v.since x y

    abbrev left_since : ℕ → ℕ
    left_since y = if in_list (v.waits j) y then asked_since j y else 0

    stamp_back : (x y : ℕ) → set_at asked_since j left_since x y ≡ v.since x y
    stamp_back x y = elim (cases_eq x j) [
      | inl e ↦ at_it asked_since left_since j x y e ∙ by (in_list (v.waits j) y) (in_list ks y) refl refl ∙ ap (λ q. v.since q y) (sym e)
      | inr n ↦ at_other asked_since left_since j x y n ∙ ap (λ z. if z && in_list ks y then v.clock + 1 else v.since x y) (ne_eqb x j n)
    ]
      where
        by : (w b : Bool) → in_list (v.waits j) y ≡ w → in_list ks y ≡ b → (if w then (if (j == j) && b then v.clock + 1 else v.since j y) else 0) ≡ v.since j y
        by true true e f = absurd (true≢false (sym e ∙ apart y f))
        by true false e f = ap (λ z. if z then v.clock + 1 else v.since j y) (and_no (j == j))
        by false b e f = sym (facts.no_stamp j y e)

    owed_back : (x y : ℕ) → (not (targets_here home s j ks y x) && (targets_here home s j ks y x || v.owed x y)) ≡ v.owed x y
    owed_back x y = by (targets_here home s j ks y x) refl
      where
        by : (z : Bool) → targets_here home s j ks y x ≡ z → (not z && (z || v.owed x y)) ≡ v.owed x y
        by false e = refl
        by true e =
            let parts = and_parts ((y == j) && (home x == s)) (in_list ks x) e in
            let both = and_parts (y == j) (home x == s) parts.0 in
            let same = eqb-true y j both.0 in
            sym (sym (facts.local y x (ap home same ∙ accepted.0) (eqb-true (home x) s both.1)) ∙ ap (λ q. waits_for v q x) same ∙ apart x parts.1)

    pub back_ask : (d : Option ℕ) (waits : Held) (declared : List Bool) (stamps : List ℕ) (clock stamp : ℕ) (was : Bool) → state_kept home s mid ≡ after home s v (Ask j ks) d → (d ≡ None) ⊎ (d ≡ Some j)
        → waits_of waits ≡ set_at (waits_of mid.waits) j (without_all (waits_of mid.waits j) ks)
        → since_of waits ≡ set_at (since_of mid.waits) j (λ k. if in_list (without_all (waits_of mid.waits j) ks) k then since_of mid.waits j k else 0)
        → flags_of declared ≡ set_at (flags_of mid.declared) j was → stamps_of stamps ≡ set_at (stamps_of mid.stamps) j stamp → clock ≡ v.clock → stamp ≡ v.stamp j → was ≡ v.declared j
        → state_kept home s (record mid { waits = waits; declared = declared; stamps = stamps; clock = clock }) ≡ v
    back_ask d waits declared stamps clock stamp was is says set since flags stamped earlier stamp_is was_is =
        kept_is home s _ v waits_back
        (since ∙ ap (λ (w : State). set_at w.since j (λ k. if in_list (without_all (w.waits j) ks) k then w.since j k else 0)) is
        ∙ ap (λ (xs : List ℕ). set_at asked_since j (λ y. if in_list xs y then asked_since j y else 0)) here
        ∙ fun_ext (λ x. fun_ext λ y. stamp_back x y))
        (ap (λ (w : State). w.leaving) is)
        (owed_less home s mid.waits waits mid.owed j (without_all (waits_of mid.waits j) ks) accepted.0 set (λ x y. targets_here home s j ks y x) others less
        ∙ ap (λ (w : State). (λ x y. not (targets_here home s j ks y x) && w.owed x y)) is ∙ fun_ext (λ x. fun_ext λ y. owed_back x y))
        (ap (λ (w : State). w.marks) is) (flags ∙ ap (λ (w : State). set_at w.declared j was) is ∙ declared_back says) earlier
        (stamped ∙ ap (λ (w : State). set_at w.stamp j stamp) is ∙ set_back v.stamp j (v.clock + 1) stamp stamp_is)
      where
        waits_back : waits_of waits ≡ v.waits
        waits_back = set ∙ ap (λ (w : State). set_at w.waits j (without_all (w.waits j) ks)) is ∙ set_back v.waits j (with_each (v.waits j) ks) _ here

        others : (x y : ℕ) → y ≢ j → targets_here home s j ks y x ≡ false
        others x y n = ap (λ z. (z && (home x == s)) && in_list ks x) (ne_eqb y j n)

        less_by : (h a b : Bool) → (h && (a && not b)) ≡ (not (h && b) && (h && a))
        less_by true true true = refl
        less_by true true false = refl
        less_by true false true = refl
        less_by true false false = refl
        less_by false a b = refl

        less : (x : ℕ) → ((home x == s) && in_list (without_all (waits_of mid.waits j) ks) x) ≡ (not (targets_here home s j ks j x) && ((home x == s) && in_list (waits_of mid.waits j) x))
        less x =
            ap (λ z. (home x == s) && z) (in_minus (waits_of mid.waits j) ks x) ∙ less_by (home x == s) (in_list (waits_of mid.waits j) x) (in_list ks x)
            ∙ sym (ap (λ z. not ((z && (home x == s)) && in_list ks x) && ((home x == s) && in_list (waits_of mid.waits j) x)) (eq-eqb j j refl))

        declared_back : (d ≡ None) ⊎ (d ≡ Some j) → set_at (declared_after (set_at v.declared j false) d) j was ≡ v.declared
        declared_back (inl none) = ap (λ e. set_at (declared_after (set_at v.declared j false) e) j was) none ∙ set_back v.declared j false was was_is
        declared_back (inr some) =
            ap (λ e. set_at (declared_after (set_at v.declared j false) e) j was) some
            ∙ fun_ext (λ p. twice (p == j) (v.declared p)) ∙ set_back v.declared j false was was_is
          where
            twice : (z x : Bool) → (if z then was else (if z then true else (if z then false else x))) ≡ (if z then was else (if z then false else x))
            twice true x = refl
            twice false x = refl
