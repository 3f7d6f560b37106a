-- A cycle of a stop ends past it by a withdrawal alone.
use Rattle.std.proofs.Common.{◌≡◌, ℕ, ◌≤◌, Bool, true, false, not, ◌&&◌, ◌||◌, List, [], ◌∷◌, ◌++◌, ◌==◌, refl, sym, ap, ◌∙◌, subst, inl, inr, true≢false, append-nil, append_assoc, arith}
use Rattle.std.proofs.lemmas.Bool.{eqb-true, and_parts, false_from_ne_true}
use Rattle.cmh_model3.specs.declared.event.Event.{Event}
use Rattle.cmh_model3.specs.declared.event.Event.TheVariants.{Ask, Reply, Withdraw, Got, Turn}
use Rattle.cmh_model3.specs.Entries.{WorldEvent}
use Rattle.cmh_model3.specs.Lists.{set_at}
use Rattle.cmh_model3.specs.Paths.{IsPath}
use Rattle.cmh_model3.specs.Rules.{Accepts, clock_after}
use Rattle.cmh_model3.specs.Runs.{IsRun}
use Rattle.cmh_model3.specs.State.{empty_state, is_blocked, waits_for}
use Rattle.cmh_model3.specs.Stops.{is_within, stop, withdrawn_past}
use Rattle.cmh_model3.specs.Waits.{IsNext, Waits, ends, leaves}
use Rattle.cmh_model3.proofs.Cuts.{run_front}
use Rattle.cmh_model3.proofs.Ends.{early_back, edge_step, next_edge, of_path, sort_path, to_path}
use Rattle.cmh_model3.proofs.Invariants.{MarksFit}
use Rattle.cmh_model3.proofs.Marks.{in_some}
use Rattle.cmh_model3.proofs.Runs.{clocks_after, clocks_are, one_step, world_of}
use Rattle.cmh_model3.proofs.Settled.{clock_up}
use Rattle.cmh_model3.proofs.Silent.{known_of_run}
use Rattle.cmh_model3.proofs.Stops.{not_within}
use Rattle.cmh_model3.proofs.World.{World, clock_of}
use Rattle.cmh_report3.specs.Endings.{StandsSince, ended_past}
use Rattle.cmh_report3.specs.Laws.{CyclesStandOrAreLeft}

neither : (a b : Bool) → (a || b) ≡ false → (a ≡ false) × (b ≡ false)
neither true b h = absurd (true≢false h)
neither false b h = (refl, h)

both_false : (a b : Bool) → a ≡ false → b ≡ false → (a || b) ≡ false
both_false a b h g = ap (λ z. z || b) h ∙ g

pub clocks-append : (clocks : ℕ → ℕ) (xs ys : List WorldEvent) → clocks_after clocks (xs ++ ys) ≡ clocks_after (clocks_after clocks xs) ys
clocks-append clocks [] ys = refl
clocks-append clocks (x ∷ xs) ys = clocks-append (set_at clocks x.site (clock_after (clocks x.site) x.entry.event)) xs ys

-- a wait of the stop was there once the clock of its asker's site had come to the stop
there_before : (home : ℕ → ℕ) (m : ℕ) (before rest : List WorldEvent) → IsRun home (before ++ rest) → (x y : ℕ) → m ≤ clock_of home (world_of home before) x
    → (world_of home (before ++ rest)).early m x y ≡ true → (world_of home before).early m x y ≡ true
there_before home m before [] run x y low h = subst (λ es. (world_of home es).early m x y ≡ true) (append-nil before) h
there_before home m before (e ∷ rest) run x y low h =
    let same = append_assoc before (e ∷ []) rest in
    let step = one_step home before e rest run in
    let fit = (known_of_run home before (run_front home before (e ∷ rest) run)).marks in
    let up = clock_up home (world_of home before) e (world_of home (before ++ e ∷ [])) step (home x) in
    early_back home (world_of home before) e (world_of home (before ++ e ∷ [])) fit step m x y low
    (there_before home m (before ++ e ∷ []) rest (subst (IsRun home) (sym same) run) x y (omega (arith, low, up)) (subst (λ es. (world_of home es).early m x y ≡ true) (sym same) h))

-- past the stop a wait is ended by its asker alone, as long as its holder waits for another
module _ (home : ℕ → ℕ) (w : World) (s m x y z : ℕ) (fit : MarksFit home w) (stands : w.wait y z ≡ w.early m y z) (there : m ≤ clock_of home w y → w.early m y z ≡ true) where
  none_ends : (event : Event) → Accepts home s (w.value s) event → is_within m (clock_after (w.value s).clock event) event ≡ false → leaves x y event ≡ false → ends x y event ≡ false
  none_ends (Ask i ks) accepts past stays = refl
  none_ends (Reply h i) accepts past stays = false_from_ne_true _ (λ both.
      let is_y = eqb-true h y (and_parts (h == y) (i == x) both).0 in
      let low = not_within m (w.value s).clock (Reply h i) past in
      let at : home y ≡ s = ap home (sym is_y) ∙ accepts.0 in
      let clock = ap (λ q. (w.value q).clock) at in
      let waits : waits_for (w.value (home y)) y z ≡ true = fit.back y z (stands ∙ there (omega (arith, low, clock))) in
      let blocked : is_blocked (w.value (home y)) y ≡ true = in_some ((w.value (home y)).waits y) z waits in
      true≢false (sym (sym (ap (λ q. is_blocked (w.value q) y) at) ∙ blocked) ∙ ap (is_blocked (w.value s)) (sym is_y) ∙ accepts.1))
  none_ends (Withdraw i ks) accepts past stays = stays
  none_ends (Turn c) accepts past stays = refl
  none_ends (Got a c frame) accepts past stays = refl

-- waits of the stop, of which each leads to another: where none of them is withdrawn past the stop, none ends past it
module _ (home : ℕ → ℕ) (m : ℕ) (R : ℕ → ℕ → Type 0) (next : (x y : ℕ) → R x y → (z : ℕ) × R y z) where
  none_ended : (before rest : List WorldEvent) → IsRun home (before ++ rest)
      → ((x y : ℕ) → R x y → (world_of home (before ++ rest)).early m x y ≡ true)
      → ((x y : ℕ) → R x y → withdrawn_past m x y (clocks_after (λ s. 0) before) rest ≡ false)
      → ((x y : ℕ) → R x y → (world_of home before).wait x y ≡ (world_of home before).early m x y)
      → (x y : ℕ) → R x y → ended_past m x y (clocks_after (λ s. 0) before) rest ≡ false
  none_ended before [] run final stays stands x y r = refl
  none_ended before (e ∷ rest) run final stays stands x y r =
      let same = append_assoc before (e ∷ []) rest in
      let step = one_step home before e rest run in
      let fit = (known_of_run home before (run_front home before (e ∷ rest) run)).marks in
      let moved = clocks-append (λ s. 0) before (e ∷ []) in
      let there : (a b : ℕ) → R a b → m ≤ clock_of home (world_of home before) a → (world_of home before).early m a b ≡ true =
      λ a b g low. there_before home m before (e ∷ rest) run a b low (final a b g) in
      let z = next x y r in
      both_false _ _
      (now (is_within m (clock_after (clocks_after (λ s. 0) before e.site) e.entry.event) e.entry.event) refl
      (λ past. none_ends home (world_of home before) e.site m x y z.0 fit (stands y z.0 z.1) (there y z.0 z.1) e.entry.event step.accepted (sym (clocked e) ∙ past) (kept x y e past (neither _ _ (stays x y r)).0)))
      (subst (λ clocks. ended_past m x y clocks rest ≡ false) moved
      (none_ended (before ++ e ∷ []) rest (subst (IsRun home) (sym same) run)
      (λ a b g. subst (λ es. (world_of home es).early m a b ≡ true) (sym same) (final a b g))
      (λ a b g. subst (λ clocks. withdrawn_past m a b clocks rest ≡ false) (sym moved) (neither _ _ (stays a b g)).1)
      (λ a b g.
      let c = next a b g in
      edge_step home (world_of home before) e (world_of home (before ++ e ∷ [])) fit step m a b c.0 (there a b g) (there b c.0 c.1) (stands a b g) (stands b c.0 c.1)
      (λ past. kept a b e (clocked e ∙ past) (neither _ _ (stays a b g)).0))
      x y r))
    where
      clocked : (e : WorldEvent) → is_within m (clock_after (clocks_after (λ s. 0) before e.site) e.entry.event) e.entry.event
          ≡ is_within m (clock_after ((world_of home before).value e.site).clock e.entry.event) e.entry.event
      clocked e = ap (λ c. is_within m (clock_after c e.entry.event) e.entry.event) (clocks_are home (λ s. 0) e.site empty_state before refl)

      kept : (a b : ℕ) (e : WorldEvent) → is_within m (clock_after (clocks_after (λ s. 0) before e.site) e.entry.event) e.entry.event ≡ false
          → (not (is_within m (clock_after (clocks_after (λ s. 0) before e.site) e.entry.event) e.entry.event) && leaves a b e.entry.event) ≡ false → leaves a b e.entry.event ≡ false
      kept a b e past h = sym (ap (λ q. not q && leaves a b e.entry.event) past) ∙ h

      now : (q : Bool) → is_within m (clock_after (clocks_after (λ s. 0) before e.site) e.entry.event) e.entry.event ≡ q
          → (is_within m (clock_after (clocks_after (λ s. 0) before e.site) e.entry.event) e.entry.event ≡ false → ends x y e.entry.event ≡ false)
          → (not (is_within m (clock_after (clocks_after (λ s. 0) before e.site) e.entry.event) e.entry.event) && ends x y e.entry.event) ≡ false
      now true is none = ap (λ q. not q && ends x y e.entry.event) is
      now false is none = ap (λ q. not q && ends x y e.entry.event) is ∙ none is

pub cycles_stand_or_are_left : CyclesStandOrAreLeft
cycles_stand_or_are_left home events run n i first members path =
    elim (sort_path (Waits (stop n events)) (Waits (stop n events)) (λ x y. withdrawn_past n x y (λ s. 0) events) (λ x y v g. v) i (first ∷ members) i path) [
      | inr found ↦ inr found
      | inl none ↦ inl (standing none)
    ]
  where
    onward : (x y : ℕ) → IsNext i (first ∷ members) x y → (z : ℕ) × IsNext i (first ∷ members) y z
    onward x y g = elim (next_edge (Waits (stop n events)) i (first ∷ members) i path x y g) [ inl z ↦ z | inr end ↦ (first, inl (sym end, refl)) ]

    stood_on : (a b : Bool) → a ≡ true → b ≡ false → (a && not b) ≡ true
    stood_on a b h g = ap (λ z. z && not b) h ∙ ap (λ z. not z) g

    standing : IsPath (λ j k. withdrawn_past n j k (λ s. 0) events ≡ false) i (first ∷ members) i → IsPath (StandsSince n events) i (first ∷ members) i
    standing none =
        let edges = of_path (Waits (stop n events)) i (first ∷ members) i path in
        let free = of_path (λ j k. withdrawn_past n j k (λ s. 0) events ≡ false) i (first ∷ members) i none in
        to_path (Waits (stop n events)) (StandsSince n events) i (first ∷ members) i path
        (λ x y g. stood_on _ _ (edges x y g) (none_ended home n (IsNext i (first ∷ members)) onward [] events run edges free (λ a b q. refl) x y g))
