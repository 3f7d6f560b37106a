-- A controller takes the rows of a base, one after the other.
use Rattle.std.proofs.Common.{◌≡◌, ◌≢◌, ℕ, ◌<◌, ◌≤◌, ◌==◌, Bool, true, false, ◌&&◌, List, [], ◌∷◌, ◌++◌, length, map, if◌then◌else◌, refl, sym, ap, ◌∙◌, subst, inl, inr, arith, length-append}
use Rattle.std.proofs.Math.Path.{fun_ext}
use Rattle.std.proofs.lemmas.Bool.{cases_eq, eq-eqb, ne_eqb}
use Rattle.std.specs.List.{AllByRecursion}
use Rattle.cmh_model3.specs.Lists.{IsAscending, in_list, is_nonempty, set_at, with_one}
use Rattle.cmh_model3.specs.Rules.{most_waits}
use Rattle.cmh_model3.specs.State.{State, is_blocked}
use Rattle.cmh_topology3.specs.Topology.{Topology, site_of}
use Rattle.cmh_controller3.specs.Controller.{Controller, home_of, state_of}
use Rattle.cmh_controller3.specs.Restoring as one
use Rattle.cmh_controller3.specs.Restoring.{MayLeave, MayOwe, MayStamp, MayWait, ForbidsFact, RefusesFact, Takes}
use Rattle.cmh_controller3.specs.Tables.{pairs_of}
use Rattle.cmh_controller3.specs.WaysBack.{owed_back}
use Rattle.cmh_controller3.specs.declared.refusal.Refusal.{Refusal}
use Rattle.cmh_controller3.specs.declared.refusal.Refusal.TheVariants.{UnknownProcess, NotHere, BadTargets, Blocked, NotBlocked, NotOwed, Unlawful, Memory, Leaving, AlreadyWaits, NotWaiting, ClockSpent}
use Rattle.cmh_segment3.specs.Base.{stamped_pair_place, stamped_place}
use Rattle.cmh_segment3.specs.States.{beside}
use Rattle.cmh_segment3.specs.declared.rows.Pair.{Pair}
use Rattle.cmh_segment3.specs.declared.rows.Stamped.{Stamped}
use Rattle.cmh_segment3.specs.declared.rows.StampedPair.{StampedPair}
use Rattle.cmh_bases3.specs.Bases.{AreDeclared, AreLeft, AreMarks, AreOwed, AreStamps, AreWaits, RefusesUnless}
use Rattle.cmh_bases3.specs.Inner.Lists.{with_declared, with_left, with_marks, with_owed, with_stamps, with_waits}
use Rattle.cmh_bases3.proofs.Ordered.{all_before, all_more, beside_below, beside_both, fewer_before, marks_more, no_stamp_yet, none_below, one_of, pairs_more, pairs_more_besides, processes_more, since_more, stamps_more, waits_more}

-- why one row is refused is why the list is
pub refused : {One All : Type 0} (reason : Refusal) → ((One → ⊥) → All → ⊥) → RefusesFact One reason → RefusesUnless All reason
refused UnknownProcess fails f = f
refused NotHere fails f = f
refused BadTargets fails f = f
refused Blocked fails f = f
refused NotBlocked fails f = f
refused NotOwed fails f = f
refused Unlawful fails f = fails f
refused Memory fails f = tt
refused Leaving fails f = f
refused AlreadyWaits fails f = f
refused NotWaiting fails f = f
refused ClockSpent fails f = f

-- the same where a row takes no memory
pub forbidden : {One All : Type 0} (reason : Refusal) → ((One → ⊥) → All → ⊥) → ForbidsFact One reason → RefusesUnless All reason
forbidden {One} {All} reason fails f = subst (RefusesUnless All) (sym f.0) (fails f.1)

-- what holds of a controller that has moved on holds at the site and in the state that it came to
module _ (Holds : (ℕ → ℕ) → ℕ → State → Type 0) (v : State) (start mid : Controller) (topology : mid.topology ≡ start.topology) (site : mid.site ≡ start.site) (state : state_of mid ≡ v) where
  pub from_there : Holds (home_of mid) mid.site (state_of mid) → Holds (home_of start) start.site v
  from_there h =
      subst (λ (w : State). Holds (home_of start) start.site w) state
      (subst (λ n. Holds (home_of start) n (state_of mid)) site (subst (λ (t : Topology). Holds (site_of t) mid.site (state_of mid)) topology h))

  pub to_there : Holds (home_of start) start.site v → Holds (home_of mid) mid.site (state_of mid)
  to_there h =
      subst (λ (t : Topology). Holds (site_of t) mid.site (state_of mid)) (sym topology)
      (subst (λ n. Holds (home_of start) n (state_of mid)) (sym site) (subst (λ (w : State). Holds (home_of start) start.site w) (sym state) h))

module _ (start : Controller) where
  abbrev home : ℕ → ℕ
  home = home_of start

  abbrev s : ℕ
  s = start.site

  abbrev v : State
  v = state_of start

  -- ---- before the first row

  none_taken : {All : Type 0} (w : State) → All → v ≡ w → Takes All w start start
  none_taken w all same = record { allowed = all; topology = refl; site = refl; state = same }

  pub no_stamps : v.stamp ≡ (λ p. 0) → Takes (AreStamps home s v.clock []) (with_stamps [] v) start start
  no_stamps none = none_taken (with_stamps [] v) tt (ap (λ (f : ℕ → ℕ). record v { stamp = f }) none)

  pub no_waits : v.waits ≡ (λ j. []) → v.since ≡ (λ j k. 0) → Takes (AreWaits home s v.stamp []) (with_waits home s [] v) start start
  no_waits none never =
      none_taken (with_waits home s [] v) (tt, λ j. omega arith) (λ i. record v { waits = none i; since = never i; owed = owes_none i })
    where
      owes_none : v.owed ≡ owed_back home s (λ j. []) v.owed
      owes_none = fun_ext λ k. fun_ext λ j.
          ap (λ (f : ℕ → List ℕ). if home j == s then (home k == s) && in_list (f j) k else pairs_of start.kept.owed k j) none ∙ go k j (home j == s)
        where
          go : (k j : ℕ) (z : Bool) → (if z then (home k == s) && false else pairs_of start.kept.owed k j)
              ≡ (if z then (home k == s) && false else (if z then (home k == s) && in_list (v.waits j) k else pairs_of start.kept.owed k j))
          go k j true = refl
          go k j false = refl

  pub no_left : v.leaving ≡ (λ j k. false) → Takes (AreLeft home s []) (with_left [] v) start start
  no_left none = none_taken (with_left [] v) tt (ap (λ (f : ℕ → ℕ → Bool). record v { leaving = f }) none)

  pub no_owed : Takes (AreOwed home s v.waits []) (with_owed [] v) start start
  no_owed = none_taken (with_owed [] v) tt refl

  pub no_marks : v.marks ≡ (λ k i. 0) → Takes (AreMarks v.waits []) (with_marks [] v) start start
  no_marks none = none_taken (with_marks [] v) tt (ap (λ (f : ℕ → ℕ → ℕ). record v { marks = f }) none)

  pub no_declared : v.declared ≡ (λ i. false) → Takes (AreDeclared v.waits []) (with_declared [] v) start start
  no_declared none = none_taken (with_declared [] v) tt (ap (λ (f : ℕ → Bool). record v { declared = f }) none)

  -- ---- one more; `mid` has taken the rows before it

  module _ (mid : Controller) where
    module _ {All One Both : Type 0} (w u : State) where
      one_more : (new : Controller) → Takes All w start mid → Takes One u mid new → (w' : State) → u ≡ w' → Both → Takes Both w' start new
      one_more new taken takes w' same both = record {
        allowed = both;
        topology = takes.topology ∙ taken.topology;
        site = takes.site ∙ taken.site;
        state = takes.state ∙ same;
      }

    module _ (xs : List Stamped) (r : Stamped) (ys : List Stamped) (up : IsAscending (map stamped_place (xs ++ r ∷ ys))) (taken : Takes (AreStamps home s v.clock xs) (with_stamps xs v) start mid) where
      pub stamp_taken : (new : Controller) → Takes (MayStamp (home_of mid) mid.site (state_of mid) r.process r.stamp) (one.with_stamp (state_of mid) r.process r.stamp) mid new
          → Takes (AreStamps home s v.clock (xs ++ r ∷ [])) (with_stamps (xs ++ r ∷ []) v) start new
      stamp_taken new takes =
          let may = from_there (λ home s v. MayStamp home s v r.process r.stamp) (with_stamps xs v) start mid taken.topology taken.site taken.state takes.allowed in
          one_more (with_stamps xs v) _ new taken takes (with_stamps (xs ++ r ∷ []) v)
          (ap (λ (w : State). one.with_stamp w r.process r.stamp) taken.state ∙ ap (λ (f : ℕ → ℕ). record v { stamp = f }) (stamps_more xs r (all_before stamped_place xs r ys up)))
          (all_more (λ (row : Stamped). (home row.process ≡ s) × (row.stamp ≤ v.clock)) xs r taken.allowed (may.0, may.2))

      pub stamp_refused : (MayStamp (home_of mid) mid.site (state_of mid) r.process r.stamp → ⊥) → AreStamps home s v.clock (xs ++ r ∷ ys) → ⊥
      stamp_refused fails all =
          let is = one_of (λ (row : Stamped). (home row.process ≡ s) × (row.stamp ≤ v.clock)) xs r ys all in
          let none = no_stamp_yet xs r.process (all_before stamped_place xs r ys up) in
          fails (to_there (λ home s v. MayStamp home s v r.process r.stamp) (with_stamps xs v) start mid taken.topology taken.site taken.state (is.0, omega (arith, none), is.1))

    module _ (xs : List Pair) (r : Pair) (ys : List Pair) (taken : Takes (AreLeft home s xs) (with_left xs v) start mid) where
      pub left_taken : (new : Controller) → Takes (MayLeave (home_of mid) mid.site r.first r.second) (one.with_leaving (state_of mid) r.first r.second) mid new
          → Takes (AreLeft home s (xs ++ r ∷ [])) (with_left (xs ++ r ∷ []) v) start new
      left_taken new takes =
          let may = from_there (λ home s v. MayLeave home s r.first r.second) (with_left xs v) start mid taken.topology taken.site taken.state takes.allowed in
          one_more (with_left xs v) _ new taken takes (with_left (xs ++ r ∷ []) v)
          (ap (λ (w : State). one.with_leaving w r.first r.second) taken.state ∙ ap (λ (f : ℕ → ℕ → Bool). record v { leaving = f }) (pairs_more xs r))
          (all_more (λ (row : Pair). (home row.first ≡ s) × (home row.second ≢ 0) × (home row.second ≢ s)) xs r taken.allowed may)

      pub left_refused : (MayLeave (home_of mid) mid.site r.first r.second → ⊥) → AreLeft home s (xs ++ r ∷ ys) → ⊥
      left_refused fails all =
          fails (to_there (λ home s v. MayLeave home s r.first r.second) (with_left xs v) start mid taken.topology taken.site taken.state
          (one_of (λ (row : Pair). (home row.first ≡ s) × (home row.second ≢ 0) × (home row.second ≢ s)) xs r ys all))

    module _ (xs : List Pair) (r : Pair) (ys : List Pair) (taken : Takes (AreOwed home s v.waits xs) (with_owed xs v) start mid) where
      abbrev IsOwed : Pair → Type 0
      IsOwed row = (home row.first ≡ s) × (home row.second ≢ 0) × (home row.second ≡ s → in_list (v.waits row.second) row.first ≡ true)

      pub owed_taken : (new : Controller) → Takes (MayOwe (home_of mid) mid.site (state_of mid) r.first r.second) (one.with_owed (state_of mid) r.first r.second) mid new
          → Takes (AreOwed home s v.waits (xs ++ r ∷ [])) (with_owed (xs ++ r ∷ []) v) start new
      owed_taken new takes =
          let may = from_there (λ home s v. MayOwe home s v r.first r.second) (with_owed xs v) start mid taken.topology taken.site taken.state takes.allowed in
          one_more (with_owed xs v) _ new taken takes (with_owed (xs ++ r ∷ []) v)
          (ap (λ (w : State). one.with_owed w r.first r.second) taken.state ∙ ap (λ (f : ℕ → ℕ → Bool). record v { owed = f }) (pairs_more_besides xs r v.owed))
          (all_more IsOwed xs r taken.allowed may)

      pub owed_refused : (MayOwe (home_of mid) mid.site (state_of mid) r.first r.second → ⊥) → AreOwed home s v.waits (xs ++ r ∷ ys) → ⊥
      owed_refused fails all = fails (to_there (λ home s v. MayOwe home s v r.first r.second) (with_owed xs v) start mid taken.topology taken.site taken.state (one_of IsOwed xs r ys all))

    module _ (xs : List StampedPair) (r : StampedPair) (ys : List StampedPair) (up : IsAscending (map stamped_pair_place (xs ++ r ∷ ys))) (taken : Takes (AreMarks v.waits xs) (with_marks xs v) start mid) where
      pub mark_taken : (new : Controller) → Takes (is_blocked (state_of mid) r.first ≡ true) (one.with_mark (state_of mid) r.first r.second r.stamp) mid new
          → Takes (AreMarks v.waits (xs ++ r ∷ [])) (with_marks (xs ++ r ∷ []) v) start new
      mark_taken new takes =
          let blocked = from_there (λ home s v. is_blocked v r.first ≡ true) (with_marks xs v) start mid taken.topology taken.site taken.state takes.allowed in
          one_more (with_marks xs v) _ new taken takes (with_marks (xs ++ r ∷ []) v)
          (ap (λ (w : State). one.with_mark w r.first r.second r.stamp) taken.state ∙ ap (λ (f : ℕ → ℕ → ℕ). record v { marks = f }) (marks_more xs r (all_before stamped_pair_place xs r ys up)))
          (all_more (λ (row : StampedPair). is_nonempty (v.waits row.first) ≡ true) xs r taken.allowed blocked)

      pub mark_refused : (is_blocked (state_of mid) r.first ≡ true → ⊥) → AreMarks v.waits (xs ++ r ∷ ys) → ⊥
      mark_refused fails all =
          fails (to_there (λ home s v. is_blocked v r.first ≡ true) (with_marks xs v) start mid taken.topology taken.site taken.state
          (one_of (λ (row : StampedPair). is_nonempty (v.waits row.first) ≡ true) xs r ys all))

    module _ (xs : List Stamped) (r : Stamped) (ys : List Stamped) (taken : Takes (AreDeclared v.waits xs) (with_declared xs v) start mid) where
      pub declared_taken : (new : Controller) → Takes (is_blocked (state_of mid) r.process ≡ true) (one.with_declared (state_of mid) r.process) mid new
          → Takes (AreDeclared v.waits (xs ++ r ∷ [])) (with_declared (xs ++ r ∷ []) v) start new
      declared_taken new takes =
          let blocked = from_there (λ home s v. is_blocked v r.process ≡ true) (with_declared xs v) start mid taken.topology taken.site taken.state takes.allowed in
          one_more (with_declared xs v) _ new taken takes (with_declared (xs ++ r ∷ []) v)
          (ap (λ (w : State). one.with_declared w r.process) taken.state ∙ ap (λ (f : ℕ → Bool). record v { declared = f }) (processes_more xs r))
          (all_more (λ (row : Stamped). is_nonempty (v.waits row.process) ≡ true) xs r taken.allowed blocked)

      pub declared_refused : (is_blocked (state_of mid) r.process ≡ true → ⊥) → AreDeclared v.waits (xs ++ r ∷ ys) → ⊥
      declared_refused fails all =
          fails (to_there (λ home s v. is_blocked v r.process ≡ true) (with_declared xs v) start mid taken.topology taken.site taken.state
          (one_of (λ (row : Stamped). is_nonempty (v.waits row.process) ≡ true) xs r ys all))

    module _ (xs : List StampedPair) (r : StampedPair) (ys : List StampedPair) (up : IsAscending (map stamped_pair_place (xs ++ r ∷ ys))) (taken : Takes (AreWaits home s v.stamp xs) (with_waits home s xs v) start mid) where
      abbrev IsWait : StampedPair → Type 0
      IsWait row = (home row.first ≡ s) × (home row.second ≢ 0) × (row.second ≢ row.first) × (row.stamp ≤ v.stamp row.first)

      low : AllByRecursion (λ (y : StampedPair). stamped_pair_place y < stamped_pair_place r) xs
      low = all_before stamped_pair_place xs r ys up

      once : (waits : ℕ → List ℕ) → owed_back home s waits (owed_back home s (λ j. beside j xs) v.owed) ≡ owed_back home s waits v.owed
      once waits = fun_ext λ x. fun_ext λ y. go x y (home y == s)
        where
          go : (x y : ℕ) (z : Bool) → (if z then (home x == s) && in_list (waits y) x else (if z then (home x == s) && in_list (beside y xs) x else v.owed x y))
              ≡ (if z then (home x == s) && in_list (waits y) x else v.owed x y)
          go x y true = refl
          go x y false = refl

      next : one.with_wait home s (with_waits home s xs v) r.first r.second r.stamp ≡ with_waits home s (xs ++ r ∷ []) v
      next =
          let waits = waits_more xs r low in
          let since = since_more xs r low in
          let owed = once (set_at (λ j. beside j xs) r.first (with_one (beside r.first xs) r.second)) ∙ ap (λ (f : ℕ → List ℕ). owed_back home s f v.owed) waits in
          λ i. record v { waits = waits i; since = since i; owed = owed i }

      few : length (beside r.first xs) < most_waits → (j : ℕ) → length (beside j (xs ++ r ∷ [])) ≤ most_waits
      few room j = elim (cases_eq r.first j) [
        | inl e ↦
            let all = ap length (beside_both j xs (r ∷ []) ∙ ap (λ z. beside j xs ++ (if z then r.second ∷ [] else [])) (eq-eqb r.first j e)) in
            let sum = length-append (beside j xs) (r.second ∷ []) in
            let here = ap (λ q. length (beside q xs)) e in
            omega (arith, all, sum, here, room)
        | inr n ↦
            let all = ap length (beside_both j xs (r ∷ []) ∙ ap (λ z. beside j xs ++ (if z then r.second ∷ [] else [])) (ne_eqb r.first j n)) in
            let sum = length-append (beside j xs) [] in
            let before = taken.allowed.1 j in
            omega (arith, all, sum, before)
      ]

      pub wait_taken : (new : Controller) → Takes (MayWait (home_of mid) mid.site (state_of mid) r.first r.second r.stamp) (one.with_wait (home_of mid) mid.site (state_of mid) r.first r.second r.stamp) mid new
          → Takes (AreWaits home s v.stamp (xs ++ r ∷ [])) (with_waits home s (xs ++ r ∷ []) v) start new
      wait_taken new takes =
          let may = from_there (λ home s v. MayWait home s v r.first r.second r.stamp) (with_waits home s xs v) start mid taken.topology taken.site taken.state takes.allowed in
          let is = from_there (λ home s v. state_of new ≡ one.with_wait home s v r.first r.second r.stamp) (with_waits home s xs v) start mid taken.topology taken.site taken.state takes.state in
          record {
            allowed = (all_more IsWait xs r taken.allowed.0 (may.0, may.1, may.2, may.5), few may.4);
            topology = takes.topology ∙ taken.topology;
            site = takes.site ∙ taken.site;
            state = is ∙ next;
          }

      pub wait_refused : (MayWait (home_of mid) mid.site (state_of mid) r.first r.second r.stamp → ⊥) → AreWaits home s v.stamp (xs ++ r ∷ ys) → ⊥
      wait_refused fails all =
          let is = one_of IsWait xs r ys all.0 in
          fails (to_there (λ home s v. MayWait home s v r.first r.second r.stamp) (with_waits home s xs v) start mid taken.topology taken.site taken.state
          (is.0, is.1, is.2, none_below (beside r.first xs) r.second (beside_below xs r low), fewer_before xs r ys most_waits (all.1 r.first), is.3))
