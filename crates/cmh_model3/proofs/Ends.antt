-- What a declared process's cycle ends by.
use Rattle.std.proofs.Common.{◌≡◌, ◌⊎◌, ℕ, ◌+◌, ◌≤◌, Bool, true, false, not, ◌&&◌, ◌||◌, List, [], ◌∷◌, ◌++◌, ◌==◌, if◌then◌else◌, refl, sym, ap, ◌∙◌, subst, inl, inr, true≢false, append-nil, append_assoc, arith}
use Rattle.std.proofs.lemmas.Bool.{cases_Bool, cases_eq, eqb-true, eq-eqb, and_parts, false_from_ne_true}
use Rattle.cmh_model3.specs.declared.event.Event.{Event}
use Rattle.cmh_model3.specs.declared.event.Event.TheVariants.{Ask, Reply, Withdraw, Got, Turn}
use Rattle.cmh_model3.specs.Lists.{in_list, set_at}
use Rattle.cmh_model3.specs.Entries.{WorldEvent}
use Rattle.cmh_model3.specs.State.{is_blocked, waits_for, empty_state}
use Rattle.cmh_model3.specs.Paths.{IsPath}
use Rattle.cmh_model3.specs.Rules.{Accepts, clock_after}
use Rattle.cmh_model3.specs.Runs.{IsRun}
use Rattle.cmh_model3.specs.Waits.{IsCycle, begins, ends, leaves, Waits, IsNext}
use Rattle.cmh_model3.specs.Stops.{withdrawn_past, is_within, stop}
use Rattle.cmh_model3.specs.Endings.{NoneWithdrawn, DeclaredEndsByWithdrawal, EndsByWithdrawal, StopIsFixed}
use Rattle.cmh_model3.proofs.World.{World, Step, clock_of}
use Rattle.cmh_model3.proofs.Invariants.{MarksFit, SettledCycle, SettledPath}
use Rattle.std.specs.Prelude.{ltb}
use Rattle.cmh_model3.proofs.Stops.{not_within}
use Rattle.cmh_model3.proofs.Settled.{begins_home, within_low, clock_up}
use Rattle.cmh_model3.proofs.Cuts.{run_front}
use Rattle.cmh_model3.proofs.Held.{step_declares}
use Rattle.cmh_model3.proofs.Marks.{in_some}
use Rattle.cmh_model3.proofs.Runs.{world_of, one_step, holds_of_run, clocks_after, clocks_are, path_on, waits_path}
use Rattle.cmh_model3.proofs.Silent.{known_of_run}

-- an ask past the stop is at a site whose clock has reached it
ask_past : (m c i : ℕ) (ks : List ℕ) → is_within m (c + 1) (Ask i ks) ≡ false → m ≤ c
ask_past m c i ks h =
    let at = not_within m (c + 1) (Ask i ks) h in
    elim (cases_eq (c + 1) m) [
      | inl e ↦ absurd (true≢false (sym (or_right (ltb (c + 1) m) ((c + 1) == m) (eq-eqb (c + 1) m e)) ∙ h))
      | inr far ↦ omega (arith, at, far)
    ]
  where
    or_right : (a b : Bool) → b ≡ true → (a || b) ≡ true
    or_right true b y = refl
    or_right false b y = y

module _ (home : ℕ → ℕ) (w : World) (e : WorldEvent) (n : World) (fit : MarksFit home w) (st : Step home w e n) (m : ℕ) where
  -- what a site has of the stop once its clock has reached it
  pub early_back : (x y : ℕ) → m ≤ clock_of home w x → n.early m x y ≡ true → w.early m x y ≡ true
  early_back x y low h = elim (cases_Bool (is_within m (clock_after (w.value e.site).clock e.entry.event) e.entry.event)) [
    | inr outside ↦ sym (st.earlier m x y ∙ ap (λ z. if z then begins x y e.entry.event || (not (ends x y e.entry.event) && w.early m x y) else w.early m x y) outside) ∙ h
    | inl inside ↦
        let ltb = within_low m (w.value e.site).clock e.entry.event inside in
        let no_begin : begins x y e.entry.event ≡ false = false_from_ne_true _ (λ b.
        let at = begins_home home e.site (w.value e.site) e.entry.event x y st.accepted b in
        let c = ap (λ z. (w.value z).clock) at in
        absurd (omega (arith, c, ltb, low))) in
        let now : n.early m x y ≡ (not (ends x y e.entry.event) && w.early m x y) =
        st.earlier m x y ∙ ap (λ z. if z then begins x y e.entry.event || (not (ends x y e.entry.event) && w.early m x y) else w.early m x y) inside
        ∙ ap (λ z. z || (not (ends x y e.entry.event) && w.early m x y)) no_begin in
        (and_parts (not (ends x y e.entry.event)) (w.early m x y) (sym now ∙ h)).1
  ]

  module _ (x y z : ℕ) (px : m ≤ clock_of home w x → w.early m x y ≡ true) (py : m ≤ clock_of home w y → w.early m y z ≡ true) (qx : w.wait x y ≡ w.early m x y) (qy : w.wait y z ≡ w.early m y z)
      (stays : is_within m (clock_after (w.value e.site).clock e.entry.event) e.entry.event ≡ false → leaves x y e.entry.event ≡ false) where
    no_begin : (ev : Event) → Accepts home e.site (w.value e.site) ev → is_within m (clock_after (w.value e.site).clock ev) ev ≡ false → begins x y ev ≡ false
    no_begin (Ask i ks) acc out = false_from_ne_true _ (λ b.
        let both = and_parts (i == x) (in_list ks y) b in
        let is_x = eqb-true i x both.0 in
        let low = ask_past m (w.value e.site).clock i ks out in
        let at : home x ≡ e.site = ap home (sym is_x) ∙ acc.0 in
        let clock = ap (λ q. (w.value q).clock) at in
        let waits : waits_for (w.value (home x)) x y ≡ true = fit.back x y (qx ∙ px (omega (arith, low, clock))) in
        absurd (true≢false (sym (sym (ap (λ q. waits_for (w.value q) x y) at) ∙ waits) ∙ ap (λ q. waits_for (w.value e.site) q y) (sym is_x) ∙ (acc.2.1 y both.1).2)))
    no_begin (Reply h i) acc out = refl
    no_begin (Withdraw i ks) acc out = refl
    no_begin (Turn d) acc out = refl
    no_begin (Got a c f) acc out = refl

    no_end : (ev : Event) → Accepts home e.site (w.value e.site) ev → is_within m (clock_after (w.value e.site).clock ev) ev ≡ false → leaves x y ev ≡ false → ends x y ev ≡ false
    no_end (Ask i ks) acc out here = refl
    no_end (Reply h i) acc out here = false_from_ne_true _ (λ b.
        let is_y = eqb-true h y (and_parts (h == y) (i == x) b).0 in
        let low = not_within m (w.value e.site).clock (Reply h i) out in
        let at : home y ≡ e.site = ap home (sym is_y) ∙ acc.0 in
        let clock = ap (λ q. (w.value q).clock) at in
        let waits : waits_for (w.value (home y)) y z ≡ true = fit.back y z (qy ∙ py (omega (arith, low, clock))) in
        let blocked : is_blocked (w.value (home y)) y ≡ true = in_some ((w.value (home y)).waits y) z waits in
        absurd (true≢false (sym (sym (ap (λ q. is_blocked (w.value q) y) at) ∙ blocked) ∙ ap (is_blocked (w.value e.site)) (sym is_y) ∙ acc.1)))
    no_end (Withdraw i ks) acc out here = here
    no_end (Turn d) acc out here = refl
    no_end (Got a c f) acc out here = refl

    pub edge_step : n.wait x y ≡ n.early m x y
    edge_step = elim (cases_Bool (is_within m (clock_after (w.value e.site).clock e.entry.event) e.entry.event)) [
      | inl inside ↦
          st.waits x y ∙ ap (λ q. begins x y e.entry.event || (not (ends x y e.entry.event) && q)) qx
          ∙ sym (st.earlier m x y ∙ ap (λ q. if q then begins x y e.entry.event || (not (ends x y e.entry.event) && w.early m x y) else w.early m x y) inside)
      | inr out ↦
          st.waits x y ∙ ap (λ q. q || (not (ends x y e.entry.event) && w.wait x y)) (no_begin e.entry.event st.accepted out)
          ∙ ap (λ q. not q && w.wait x y) (no_end e.entry.event st.accepted out (stays out)) ∙ qx
          ∙ sym (st.earlier m x y ∙ ap (λ q. if q then begins x y e.entry.event || (not (ends x y e.entry.event) && w.early m x y) else w.early m x y) out)
    ]

pub of_path : (W : ℕ → ℕ → Type 0) (p : ℕ) (xs : List ℕ) (q : ℕ) → IsPath W p xs q → (x y : ℕ) → IsNext p xs x y → W x y
of_path W p [] q h x y e = absurd e
of_path W p (r ∷ rs) q h x y (inl e) = subst (λ z. W z y) e.0 (subst (λ z. W p z) e.1 h.0)
of_path W p (r ∷ rs) q h x y (inr e) = of_path W r rs q h.1 x y e

pub to_path : (V W : ℕ → ℕ → Type 0) (p : ℕ) (xs : List ℕ) (q : ℕ) → IsPath V p xs q → ((x y : ℕ) → IsNext p xs x y → W x y) → IsPath W p xs q
to_path V W p [] q h f = h
to_path V W p (r ∷ rs) q h f = (f p r (inl (refl, refl)), to_path V W r rs q h.1 (λ x y e. f x y (inr e)))

pub next_edge : (V : ℕ → ℕ → Type 0) (p : ℕ) (xs : List ℕ) (q : ℕ) → IsPath V p xs q → (x y : ℕ) → IsNext p xs x y → ((z : ℕ) × IsNext p xs y z) ⊎ (y ≡ q)
next_edge V p [] q h x y e = absurd e
next_edge V p (r ∷ []) q h x y (inl e) = inr (sym e.1 ∙ h.1)
next_edge V p (r ∷ r2 ∷ rs) q h x y (inl e) = inl (r2, inr (inl (e.1, refl)))
next_edge V p (r ∷ rs) q h x y (inr e) = elim (next_edge V r rs q h.1 x y e) [ inl z ↦ inl (z.0, inr z.1) | inr end ↦ inr end ]

clocks-append : (clocks : ℕ → ℕ) (xs ys : List WorldEvent) → clocks_after clocks (xs ++ ys) ≡ clocks_after (clocks_after clocks xs) ys
clocks-append clocks [] ys = refl
clocks-append clocks (x ∷ xs) ys = clocks-append (set_at clocks x.site (clock_after (clocks x.site) x.entry.event)) xs ys

or_false : (a b : Bool) → (a || b) ≡ false → (a ≡ false) × (b ≡ false)
or_false true b h = absurd (true≢false h)
or_false false b h = (refl, h)

-- what a site has at the end of the stop it had when its clock reached it
back_on : (home : ℕ → ℕ) (m : ℕ) (before rest : List WorldEvent) → IsRun home (before ++ rest) → (x y : ℕ) → m ≤ clock_of home (world_of home before) x → (world_of home (before ++ rest)).early m x y ≡ true → (world_of home before).early m x y ≡ true
back_on home m before [] run x y low h = subst (λ z. (world_of home z).early m x y ≡ true) (append-nil before) h
back_on home m before (e ∷ rest) run x y low h =
    let same = append_assoc before (e ∷ []) rest in
    let step = one_step home before e rest run in
    let fit = (known_of_run home before (run_front home before (e ∷ rest) run)).marks in
    let up = clock_up home (world_of home before) e (world_of home (before ++ e ∷ [])) step (home x) in
    early_back home (world_of home before) e (world_of home (before ++ e ∷ [])) fit step m x y low
    (back_on home m (before ++ e ∷ []) rest (subst (IsRun home) (sym same) run) x y (omega (arith, low, up)) (subst (λ z. (world_of home z).early m x y ≡ true) (sym same) h))

-- edges of which each leads to another, and which are waits of the stop at the end: where none of them is withdrawn past the stop, they stand
module _ (home : ℕ → ℕ) (m : ℕ) (R : ℕ → ℕ → Type 0) (next : (x y : ℕ) → R x y → (z : ℕ) × R y z) where
  stand_on : (before rest : List WorldEvent) → IsRun home (before ++ rest)
      → ((x y : ℕ) → R x y → (world_of home (before ++ rest)).early m x y ≡ true)
      → ((x y : ℕ) → R x y → withdrawn_past m x y (clocks_after (λ s. 0) before) rest ≡ false)
      → ((x y : ℕ) → R x y → (world_of home before).wait x y ≡ (world_of home before).early m x y)
      → (x y : ℕ) → R x y → (world_of home (before ++ rest)).wait x y ≡ (world_of home (before ++ rest)).early m x y
  stand_on before [] run final stays q x y r = subst (λ z. (world_of home z).wait x y ≡ (world_of home z).early m x y) (sym (append-nil before)) (q x y r)
  stand_on before (e ∷ rest) run final stays q x y r =
      let same = append_assoc before (e ∷ []) rest in
      let step = one_step home before e rest run in
      let fit = (known_of_run home before (run_front home before (e ∷ rest) run)).marks in
      let clock = clocks_are home (λ s. 0) e.site empty_state before refl in
      let moved = clocks-append (λ s. 0) before (e ∷ []) in
      subst (λ z. (world_of home z).wait x y ≡ (world_of home z).early m x y) same
      (stand_on (before ++ e ∷ []) rest (subst (IsRun home) (sym same) run) (λ a b g. subst (λ z. (world_of home z).early m a b ≡ true) (sym same) (final a b g))
      (λ a b g. subst (λ c. withdrawn_past m a b c rest ≡ false) (sym moved) (or_false _ _ (stays a b g)).1)
      (λ a b g.
      let z = next a b g in
      edge_step home (world_of home before) e (world_of home (before ++ e ∷ [])) fit step m a b z.0
      (λ low. back_on home m before (e ∷ rest) run a b low (final a b g))
      (λ low. back_on home m before (e ∷ rest) run b z.0 low (final b z.0 z.1))
      (q a b g) (q b z.0 z.1)
      (λ out. kept a b e (ap (λ c. is_within m (clock_after c e.entry.event) e.entry.event) clock ∙ out) (or_false _ _ (stays a b g)).0))
      x y r)
    where
      kept : (a b : ℕ) (e : WorldEvent) → is_within m (clock_after (clocks_after (λ s. 0) before e.site) e.entry.event) e.entry.event ≡ false
          → (not (is_within m (clock_after (clocks_after (λ s. 0) before e.site) e.entry.event) e.entry.event) && leaves a b e.entry.event) ≡ false → leaves a b e.entry.event ≡ false
      kept a b e out h = sym (ap (λ z. not z && leaves a b e.entry.event) out) ∙ h

pub ends_by_withdrawal : DeclaredEndsByWithdrawal
ends_by_withdrawal home before e run0 i h =
    let found = step_declares home (world_of home before) e (world_of home (before ++ e ∷ [])) (holds_of_run home before (run_front home before (e ∷ []) run0)) (one_step home before e [] run0) i h in
    let m : ℕ = found.0 in
    let cycle : SettledCycle home (world_of home (before ++ e ∷ [])) m i = found.2 in (
      cycle.0,
      cycle.1,
      λ rest run.
          let same = append_assoc before (e ∷ []) rest in
          let there = subst (λ z. SettledPath home (world_of home z) m i (cycle.0 ∷ cycle.1) i) same (path_on home m i i (cycle.0 ∷ cycle.1) (before ++ e ∷ []) rest (subst (IsRun home) (sym same) run) (cycle.2, cycle.3)) in
          subst (λ n. IsCycle (stop n (before ++ e ∷ rest)) i cycle.0 cycle.1 × (NoneWithdrawn n (before ++ e ∷ rest) i cycle.0 cycle.1 → IsCycle (before ++ e ∷ rest) i cycle.0 cycle.1)) found.3
          (later before e rest run i m cycle.0 cycle.1 (waits_path home m (before ++ e ∷ rest) i (cycle.0 ∷ cycle.1) i there)),
    )
  where
    later : (before : List WorldEvent) (e : WorldEvent) (rest : List WorldEvent) → IsRun home (before ++ e ∷ rest) → (i m : ℕ) (first : ℕ) (members : List ℕ)
        → IsPath (Waits (stop m (before ++ e ∷ rest))) i (first ∷ members) i
        → IsPath (Waits (stop m (before ++ e ∷ rest))) i (first ∷ members) i
        × (IsPath (λ j k. withdrawn_past m j k (λ s. 0) (before ++ e ∷ rest) ≡ false) i (first ∷ members) i → IsPath (Waits (before ++ e ∷ rest)) i (first ∷ members) i)
    later before e rest run i m first members path = (
      path,
      λ none.
          let events : List WorldEvent = before ++ e ∷ rest in
          let edges = of_path (Waits (stop m events)) i (first ∷ members) i path in
          let free = of_path (λ j k. withdrawn_past m j k (λ s. 0) events ≡ false) i (first ∷ members) i none in
          let stand = stand_on home m (IsNext i (first ∷ members)) (onward path) [] events run edges free (λ x y g. refl) in
          to_path (Waits (stop m events)) (Waits events) i (first ∷ members) i path (λ x y g. stand x y g ∙ edges x y g),
    )
      where
        onward : IsPath (Waits (stop m (before ++ e ∷ rest))) i (first ∷ members) i → (x y : ℕ) → IsNext i (first ∷ members) x y → (z : ℕ) × IsNext i (first ∷ members) y z
        onward path x y g = elim (next_edge (Waits (stop m (before ++ e ∷ rest))) i (first ∷ members) i path x y g) [ inl z ↦ z | inr end ↦ (first, inl (sym end, refl)) ]

-- a path of waits is one of other waits, or has a stretch with a wrong mark
pub sort_path : (V W : ℕ → ℕ → Type 0) (bad : ℕ → ℕ → Bool) → ((x y : ℕ) → V x y → bad x y ≡ false → W x y) → (p : ℕ) (xs : List ℕ) (q : ℕ) → IsPath V p xs q
    → IsPath (λ x y. bad x y ≡ false) p xs q ⊎ ((x : ℕ) × (y : ℕ) × IsNext p xs x y × (bad x y ≡ true))
sort_path V W bad f p [] q h = inl h
sort_path V W bad f p (r ∷ rs) q h = elim (cases_Bool (bad p r)) [
  | inl yes' ↦ inr (p, r, inl (refl, refl), yes')
  | inr fine ↦ elim (sort_path V W bad f r rs q h.1) [
    | inl path ↦ inl (fine, path)
    | inr found ↦ inr (found.0, found.1, inr found.2, found.3)
  ]
]

pub each_cycle_ends_by_withdrawal : EndsByWithdrawal
each_cycle_ends_by_withdrawal home events run m i first members path =
    elim (sort_path (Waits (stop m events)) (Waits (stop m events)) (λ x y. withdrawn_past m x y (λ s. 0) events) (λ x y v g. v) i (first ∷ members) i path) [
      | inr found ↦ inr found
      | inl none ↦ inl (whole_run none)
    ]
  where
    onward : (x y : ℕ) → IsNext i (first ∷ members) x y → (z : ℕ) × IsNext i (first ∷ members) y z
    onward x y g = elim (next_edge (Waits (stop m events)) i (first ∷ members) i path x y g) [ inl z ↦ z | inr end ↦ (first, inl (sym end, refl)) ]

    whole_run : IsPath (λ j k. withdrawn_past m j k (λ s. 0) events ≡ false) i (first ∷ members) i → IsPath (Waits events) i (first ∷ members) i
    whole_run none =
        let edges = of_path (Waits (stop m events)) i (first ∷ members) i path in
        let free = of_path (λ j k. withdrawn_past m j k (λ s. 0) events ≡ false) i (first ∷ members) i none in
        let stand = stand_on home m (IsNext i (first ∷ members)) onward [] events run edges free (λ x y g. refl) in
        to_path (Waits (stop m events)) (Waits events) i (first ∷ members) i path (λ x y g. stand x y g ∙ edges x y g)

pub stop_is_fixed : StopIsFixed
stop_is_fixed home before rest run m p [] q h = ((λ path. path), (λ path. path))
stop_is_fixed home before rest run m p (x ∷ xs) q h =
    let more = stop_is_fixed home before rest run m x xs q h.1 in (
      (λ path. ((path_on home m p x (x ∷ []) before rest run ((path.0, h.0, h.1.0), refl)).0.0, more.0 path.1)),
      (λ path. (back_on home m before rest run p x h.0 path.0, more.1 path.1)),
    )
