-- What the second half of a step changed is put back with copies that were made before.
use Rattle.std.proofs.Common.{◌≡◌, ◌≢◌, ℕ, max, Bool, true, false, not, ◌&&◌, ◌||◌, List, [], ◌∷◌, ◌==◌, if◌then◌else◌, Option, None, Some, refl, sym, ap, ◌∙◌, subst, inl, inr}
use Rattle.std.specs.Prelude.{MatchOption}
use Rattle.std.proofs.Math.Path.{fun_ext}
use Rattle.std.proofs.lemmas.Bool.{and_parts, cases_eq, eq-eqb, eqb-true, ne_eqb, true≢false}
use Rattle.cmh_model3.specs.declared.event.Event.TheVariants.{Ask, Reply, Withdraw, Got, Turn}
use Rattle.cmh_model3.specs.declared.frame.Frame.TheVariants.{Request, Reply as Reply_frame, Withdraw as Withdraw_frame, Probe}
use Rattle.cmh_model3.specs.Lists.{in_list, is_nonempty, set_at, set_pair, without, without_all}
use Rattle.cmh_model3.specs.State.{State, waits_for, with_waits}
use Rattle.cmh_model3.specs.Rules.{targets_away, targets_here}
use Rattle.cmh_model3.proofs.Counts.{and_no}
use Rattle.cmh_waits3.specs.Held.{Held, waits_of}
use Rattle.cmh_waits3.specs.Rows.{since_in, targets_of}
use Rattle.cmh_waits3.proofs.Rows.{without_is}
use Rattle.cmh_controller3.specs.Controller.{Controller, home_of, owed_of, state_of}
use Rattle.cmh_controller3.specs.Inner.SecondHalves.{HoldsClock, HoldsLeaving, HoldsOwed, HoldsWaits, PutsBack}
use Rattle.cmh_controller3.specs.Tables.{flags_of, marks_of, pairs_of, stamp_in}
use Rattle.cmh_controller3.specs.WaysBack.{FitsRows, flags_back, marks_back, owed_back, rows_back}
use Rattle.cmh_controller3.specs.declared.rows.Forgotten.{Forgotten}
use Rattle.cmh_controller3.specs.declared.rows.Rows.{Rows}
use Rattle.cmh_controller3.proofs.Back.{set_back, set_same}

-- a state is its fields
state_is : (u v : State) → u.waits ≡ v.waits → u.since ≡ v.since → u.leaving ≡ v.leaving → u.owed ≡ v.owed → u.marks ≡ v.marks → u.declared ≡ v.declared → u.clock ≡ v.clock → u.stamp ≡ v.stamp → u ≡ v
state_is u v a b c d e f g h = λ i. record { waits = a i; since = b i; leaving = c i; owed = d i; marks = e i; declared = f i; clock = g i; stamp = h i }

-- a state at another clock
abbrev finish : State → ℕ → State
finish w n = record w { clock = n }

-- ---- what is owed

twice : {X : Type 0} (z : Bool) (a b : X) → (if z then a else (if z then a else b)) ≡ (if z then a else b)
twice true a b = refl
twice false a b = refl

module _ (home : ℕ → ℕ) (s : ℕ) (w : Held) (t : List (List ℕ)) where
  abbrev owed : ℕ → ℕ → Bool
  owed = owed_of home s w t

  abbrev here : ℕ → ℕ → Bool
  here x y = (home x == s) && in_list (waits_of w y) x

  owed_same : owed_back home s (waits_of w) owed ≡ owed
  owed_same = fun_ext λ x. fun_ext λ y. twice (home y == s) (here x y) (pairs_of t x y)

  -- the row of k is put back, of which j was taken out
  owed_row : (k j : ℕ) (row : List ℕ) → ((y : ℕ) → in_list row y ≡ pairs_of t k y) → owed_back home s (waits_of w) (set_at (set_pair owed k j false) k (in_list row)) ≡ owed
  owed_row k j row pairs = fun_ext λ x. fun_ext λ y. elim (cases_eq x k) [
    | inl e ↦
        ap (λ (z : Bool). if home y == s then here x y else (if z then in_list row else set_pair owed k j false x) y) (eq-eqb x k e)
        ∙ ap (λ b. if home y == s then here x y else b) (pairs y ∙ ap (λ q. pairs_of t q y) (sym e))
    | inr n ↦
        ap (λ (z : Bool). if home y == s then here x y else (if z then in_list row else (λ q. if z && (q == j) then false else owed x q)) y) (ne_eqb x k n)
        ∙ twice (home y == s) (here x y) (pairs_of t x y)
  ]

  -- the waits are put back, and what is owed to processes of other sites is the same
  owed_waits : (waits : ℕ → List ℕ) (now : ℕ → ℕ → Bool) → waits ≡ waits_of w → ((x y : ℕ) → home y ≢ s → now x y ≡ owed x y) → owed_back home s waits now ≡ owed
  owed_waits waits now back same = fun_ext λ x. fun_ext λ y. elim (cases_eq (home y) s) [
    | inl e ↦
        ap (λ z. if z then (home x == s) && in_list (waits y) x else now x y) (eq-eqb (home y) s e)
        ∙ ap (λ (f : ℕ → List ℕ). (home x == s) && in_list (f y) x) back
        ∙ sym (ap (λ z. if z then here x y else pairs_of t x y) (eq-eqb (home y) s e))
    | inr n ↦ ap (λ z. if z then (home x == s) && in_list (waits y) x else now x y) (ne_eqb (home y) s n) ∙ same x y n
  ]

-- ---- what was forgotten

forgotten_marks : (marks now : ℕ → ℕ → ℕ) (j : ℕ) (left : List ℕ) (o : Option Forgotten) → now ≡ (if is_nonempty left then marks else set_at marks j (λ i. 0))
    → MatchOption o (is_nonempty left ≡ true) (λ f. (i : ℕ) → stamp_in f.marks i ≡ marks j i) → marks_back now j o ≡ marks
forgotten_marks marks now j left None is forgets = is ∙ ap (λ (z : Bool). if z then marks else set_at marks j (λ i. 0)) forgets
forgotten_marks marks now j left (Some f) is forgets = ap (λ (g : ℕ → ℕ → ℕ). set_at g j (stamp_in f.marks)) is ∙ go (is_nonempty left)
  where
    go : (z : Bool) → set_at (if z then marks else set_at marks j (λ i. 0)) j (stamp_in f.marks) ≡ marks
    go true = set_same marks j (stamp_in f.marks) (fun_ext forgets)
    go false = set_back marks j (λ i. 0) (stamp_in f.marks) (fun_ext forgets)

forgotten_flags : (flags now : ℕ → Bool) (j : ℕ) (left : List ℕ) (o : Option Forgotten) → now ≡ (if is_nonempty left then flags else set_at flags j false)
    → MatchOption o (is_nonempty left ≡ true) (λ f. f.declared ≡ flags j) → flags_back now j o ≡ flags
forgotten_flags flags now j left None is forgets = is ∙ ap (λ (z : Bool). if z then flags else set_at flags j false) forgets
forgotten_flags flags now j left (Some f) is forgets = ap (λ (g : ℕ → Bool). set_at g j f.declared) is ∙ go (is_nonempty left)
  where
    go : (z : Bool) → set_at (if z then flags else set_at flags j false) j f.declared ≡ flags
    go true = set_same flags j f.declared forgets
    go false = set_back flags j false f.declared forgets

module _ (c : Controller) (rows : Rows) where
  abbrev home : ℕ → ℕ
  home = home_of c

  abbrev s : ℕ
  s = c.site

  abbrev m : State
  m = state_of c

  -- ---- by what was copied

  clock_back : HoldsClock c rows → (n : ℕ) → rows_back home s rows (finish m n) ≡ m
  clock_back holds n =
      subst (λ (r : Rows). rows_back home s r (finish m n) ≡ m) (sym holds.are)
      (state_is _ m refl refl refl (owed_same home s c.kept.waits c.kept.owed) refl refl refl refl)

  owed_row_back : (k j n : ℕ) → HoldsOwed c k rows → (w : State) → w ≡ finish (record m { owed = set_pair m.owed k j false }) n → rows_back home s rows w ≡ m
  owed_row_back k j n holds w is =
      ap (rows_back home s rows) is
      ∙ subst (λ (r : Rows). rows_back home s r (finish (record m { owed = set_pair m.owed k j false }) n) ≡ m) (sym holds.are)
      (state_is _ m refl refl refl (owed_row home s c.kept.waits c.kept.owed k j holds.row holds.pairs) refl refl refl refl)

  leaving_row_back : (j k n : ℕ) → HoldsLeaving c j rows → (w : State) → w ≡ finish (record m { leaving = set_pair m.leaving j k false }) n → rows_back home s rows w ≡ m
  leaving_row_back j k n holds w is =
      ap (rows_back home s rows) is
      ∙ subst (λ (r : Rows). rows_back home s r (finish (record m { leaving = set_pair m.leaving j k false }) n) ≡ m) (sym holds.are)
      (state_is _ m refl refl (fun_ext λ x. fun_ext λ y. at x y) (owed_same home s c.kept.waits c.kept.owed) refl refl refl refl)
    where
      at : (x y : ℕ) → set_at (set_pair m.leaving j k false) j (in_list holds.row) x y ≡ m.leaving x y
      at x y = elim (cases_eq x j) [
        | inl e ↦ ap (λ (z : Bool). (if z then in_list holds.row else set_pair m.leaving j k false x) y) (eq-eqb x j e) ∙ holds.pairs y ∙ ap (λ q. m.leaving q y) (sym e)
        | inr n ↦ ap (λ (z : Bool). (if z then in_list holds.row else (λ q. if z && (q == k) then false else m.leaving x q)) y) (ne_eqb x j n)
      ]

  -- the state after the waits of j for these have ended
  record IsWoken (j : ℕ) (ks : List ℕ) (w : State) : Type 0 where
    since : ℕ → ℕ
    waits : w.waits ≡ set_at m.waits j (without_all (m.waits j) ks)
    stamped : w.since ≡ set_at m.since j since
    leaving : w.leaving ≡ m.leaving
    owed : (x y : ℕ) → home y ≢ s → w.owed x y ≡ m.owed x y
    marks : w.marks ≡ (if is_nonempty (without_all (m.waits j) ks) then m.marks else set_at m.marks j (λ i. 0))
    declared : w.declared ≡ (if is_nonempty (without_all (m.waits j) ks) then m.declared else set_at m.declared j false)
    stamp : w.stamp ≡ m.stamp

  waits_row_back : (j : ℕ) (ks : List ℕ) (w : State) → HoldsWaits c j ks rows → IsWoken j ks w → rows_back home s rows w ≡ m
  waits_row_back j ks w holds woken =
      let left = without_all (m.waits j) ks in
      let waits : set_at w.waits j (targets_of holds.row) ≡ m.waits =
      ap (λ (f : ℕ → List ℕ). set_at f j (targets_of holds.row)) woken.waits ∙ set_back m.waits j left (targets_of holds.row) (ap targets_of holds.waits) in
      subst (λ (r : Rows). rows_back home s r w ≡ m) (sym holds.are)
      (state_is _ m waits
      (ap (λ (f : ℕ → ℕ → ℕ). set_at f j (since_in holds.row)) woken.stamped ∙ set_back m.since j woken.since (since_in holds.row) (ap since_in holds.waits))
      woken.leaving
      (owed_waits home s c.kept.waits c.kept.owed (set_at w.waits j (targets_of holds.row)) w.owed waits woken.owed)
      (forgotten_marks m.marks w.marks j left holds.forgotten woken.marks (of_marks holds.forgotten holds.forgets))
      (forgotten_flags m.declared w.declared j left holds.forgotten woken.declared (of_flags holds.forgotten holds.forgets))
      refl woken.stamp)
    where
      of_marks : (o : Option Forgotten) → MatchOption o (is_nonempty (without_all (m.waits j) ks) ≡ true) (λ f. ((i : ℕ) → stamp_in f.marks i ≡ marks_of c.kept.marks j i) × (f.declared ≡ flags_of c.kept.declared j))
          → MatchOption o (is_nonempty (without_all (m.waits j) ks) ≡ true) (λ f. (i : ℕ) → stamp_in f.marks i ≡ m.marks j i)
      of_marks None forgets = forgets
      of_marks (Some f) forgets = forgets.0

      of_flags : (o : Option Forgotten) → MatchOption o (is_nonempty (without_all (m.waits j) ks) ≡ true) (λ f. ((i : ℕ) → stamp_in f.marks i ≡ marks_of c.kept.marks j i) × (f.declared ≡ flags_of c.kept.declared j))
          → MatchOption o (is_nonempty (without_all (m.waits j) ks) ≡ true) (λ f. f.declared ≡ m.declared j)
      of_flags None forgets = forgets
      of_flags (Some f) forgets = forgets.1

  -- ---- each event

  -- who waits at another site is another
  apart : (j y : ℕ) → home j ≡ s → home y ≢ s → y ≢ j
  apart j y at away e = away (ap home e ∙ at)

  one_left : (j k : ℕ) → without (m.waits j) k ≡ without_all (m.waits j) (k ∷ [])
  one_left j k = sym (without_is (m.waits j) k)

  clock_fits : HoldsClock c rows → FitsRows home s rows
  clock_fits holds = subst (λ (r : Rows). FitsRows home s r) (sym holds.are) (record { waits = tt; forgotten = tt; leaving = tt; owed = tt })

  pub ask_puts : (j : ℕ) (ks : List ℕ) → HoldsClock c rows → PutsBack c (Ask j ks) rows
  ask_puts j ks holds = record { fits = clock_fits holds; back = clock_back holds c.kept.clock }

  pub turn_puts : (n : ℕ) → HoldsClock c rows → PutsBack c (Turn n) rows
  turn_puts n holds = record { fits = clock_fits holds; back = clock_back holds (max c.kept.clock n) }

  pub request_puts : (a n j k : ℕ) → HoldsClock c rows → PutsBack c (Got a n (Request j k)) rows
  request_puts a n j k holds = record { fits = clock_fits holds; back = clock_back holds c.kept.clock }

  pub probe_puts : (a n i l j k : ℕ) → HoldsClock c rows → PutsBack c (Got a n (Probe i l j k)) rows
  probe_puts a n i l j k holds = record { fits = clock_fits holds; back = clock_back holds c.kept.clock }

  pub got_withdraw_puts : (a n j k : ℕ) → HoldsOwed c k rows → PutsBack c (Got a n (Withdraw_frame j k)) rows
  got_withdraw_puts a n j k holds = record { fits = holds.fits; back = owed_row_back k j (max c.kept.clock n) holds _ refl }

  pub reply_away_puts : (k j : ℕ) → home j ≢ s → HoldsOwed c k rows → PutsBack c (Reply k j) rows
  reply_away_puts k j away holds = record {
    fits = holds.fits;
    back =
        let answered : State = record m { owed = set_pair m.owed k j false } in
        owed_row_back k j c.kept.clock holds _ (ap (λ z. finish (if z then with_waits answered j (without (m.waits j) k) else answered) c.kept.clock) (ne_eqb (home j) s away));
  }

  pub reply_here_puts : (k j : ℕ) → home j ≡ s → HoldsWaits c j (k ∷ []) rows → PutsBack c (Reply k j) rows
  reply_here_puts k j at holds = record {
    fits = holds.fits;
    back =
        ap (λ z. rows_back home s rows (finish (if z then with_waits answered j (without (m.waits j) k) else answered) c.kept.clock)) (eq-eqb (home j) s at)
        ∙ ap (λ (left : List ℕ). rows_back home s rows (finish (with_waits answered j left) c.kept.clock)) (one_left j k)
        ∙ waits_row_back j (k ∷ []) (finish (with_waits answered j (without_all (m.waits j) (k ∷ []))) c.kept.clock) holds (record {
          since = λ q. if in_list (without_all (m.waits j) (k ∷ [])) q then m.since j q else 0;
          waits = refl;
          stamped = refl;
          leaving = refl;
          owed = λ x y away. ap (λ z. if (x == k) && z then false else m.owed x y) (ne_eqb y j (apart j y at away)) ∙ ap (λ z. if z then false else m.owed x y) (and_no (x == k));
          marks = refl;
          declared = refl;
          stamp = refl;
        });
  }
    where
      answered : State
      answered = record m { owed = set_pair m.owed k j false }

  pub got_reply_puts : (a n k j : ℕ) → waits_for m j k ≡ true → HoldsWaits c j (k ∷ []) rows → PutsBack c (Got a n (Reply_frame k j)) rows
  got_reply_puts a n k j waits holds = record {
    fits = holds.fits;
    back =
        ap (λ z. rows_back home s rows (finish (if z then with_waits m j (without (m.waits j) k) else record m { leaving = set_pair m.leaving j k false }) (max c.kept.clock n))) waits
        ∙ ap (λ (left : List ℕ). rows_back home s rows (finish (with_waits m j left) (max c.kept.clock n))) (one_left j k)
        ∙ waits_row_back j (k ∷ []) (finish (with_waits m j (without_all (m.waits j) (k ∷ []))) (max c.kept.clock n)) holds (record {
          since = λ q. if in_list (without_all (m.waits j) (k ∷ [])) q then m.since j q else 0;
          waits = refl;
          stamped = refl;
          leaving = refl;
          owed = λ x y away. refl;
          marks = refl;
          declared = refl;
          stamp = refl;
        });
  }

  pub left_puts : (a n k j : ℕ) → waits_for m j k ≡ false → HoldsLeaving c j rows → PutsBack c (Got a n (Reply_frame k j)) rows
  left_puts a n k j none holds = record {
    fits = holds.fits;
    back = leaving_row_back j k (max c.kept.clock n) holds _
        (ap (λ z. finish (if z then with_waits m j (without (m.waits j) k) else record m { leaving = set_pair m.leaving j k false }) (max c.kept.clock n)) none);
  }

  pub withdraw_puts : (j : ℕ) (ks : List ℕ) → home j ≡ s → ((k : ℕ) → targets_away home s j ks j k ≡ true → m.leaving j k ≡ true) → HoldsWaits c j ks rows → PutsBack c (Withdraw j ks) rows
  withdraw_puts j ks at left holds = record {
    fits = holds.fits;
    back = waits_row_back j ks (finish (with_waits given_up j (without_all (m.waits j) ks)) c.kept.clock) holds (record {
      since = λ q. if in_list (without_all (m.waits j) ks) q then m.since j q else 0;
      waits = refl;
      stamped = refl;
      leaving = fun_ext λ x. fun_ext λ y. already (targets_away home s j ks x y) (m.leaving x y) (leaving_already x y);
      owed = λ x y away. ap (λ z. not ((z && (home x == s)) && in_list ks x) && m.owed x y) (ne_eqb y j (apart j y at away));
      marks = refl;
      declared = refl;
      stamp = refl;
    });
  }
    where
      given_up : State
      given_up = record m { leaving = (λ x y. targets_away home s j ks x y || m.leaving x y); owed = (λ x y. not (targets_here home s j ks y x) && m.owed x y) }

      already : (z b : Bool) → (z ≡ true → b ≡ true) → (z || b) ≡ b
      already true b h = sym (h refl)
      already false b h = refl

      leaving_already : (x y : ℕ) → targets_away home s j ks x y ≡ true → m.leaving x y ≡ true
      leaving_already x y h =
          let first = (and_parts ((x == j) && not (home y == s)) (in_list ks y) h).0 in
          let same = eqb-true x j (and_parts (x == j) (not (home y == s)) first).0 in
          subst (λ q. m.leaving q y ≡ true) (sym same) (left y (subst (λ q. targets_away home s j ks q y ≡ true) same h))

-- who is not of the site is of another
pub not_here : (a b : ℕ) → (a == b) ≡ false → a ≢ b
not_here a b none e = true≢false (sym (eq-eqb a b e) ∙ none)
