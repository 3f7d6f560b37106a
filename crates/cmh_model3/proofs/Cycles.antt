-- A cycle of waits ends by a withdrawal alone.
use Rattle.std.proofs.Common.{◌≡◌, ◌⊎◌, ℕ, Bool, true, false, not, ◌&&◌, ◌||◌, List, [], ◌∷◌, ◌++◌, ◌==◌, if◌then◌else◌, refl, sym, ap, ◌∙◌, subst, inl, inr, true≢false, append-nil, append_assoc}
use Rattle.std.proofs.lemmas.Bool.{eqb-true, and_parts, or_cases, false_from_ne_true}
use Rattle.cmh_model3.specs.declared.event.Event.{Event}
use Rattle.cmh_model3.specs.declared.event.Event.TheVariants.{Ask, Reply, Withdraw, Got, Turn}
use Rattle.cmh_model3.specs.Lists.{set_at}
use Rattle.cmh_model3.specs.Entries.{WorldEvent}
use Rattle.cmh_model3.specs.State.{is_blocked}
use Rattle.cmh_model3.specs.Paths.{IsPath}
use Rattle.cmh_model3.specs.Rules.{Accepts, clock_after}
use Rattle.cmh_model3.specs.Runs.{IsRun}
use Rattle.cmh_model3.specs.Waits.{begins, ends, leaves, Waits, IsNext}
use Rattle.cmh_model3.specs.Stops.{is_within, events_within, stop, withdrawn, withdrawn_past}
use Rattle.cmh_model3.specs.Endings.{EndsByWithdrawalLater}
use Rattle.cmh_model3.specs.Victims.{is_delivery}
use Rattle.cmh_model3.specs.Rest.{AreDeliveries, EachCycleFound}
use Rattle.cmh_model3.proofs.World.{World, Step}
use Rattle.cmh_model3.proofs.Invariants.{MarksFit}
use Rattle.cmh_model3.proofs.Greatest.{each_cycle_declared}
use Rattle.cmh_model3.proofs.Counts.{or_yes}
use Rattle.cmh_model3.proofs.Cuts.{run_front, stop_is_run}
use Rattle.cmh_model3.proofs.Marks.{in_some}
use Rattle.cmh_model3.proofs.Runs.{world_of, one_step, events_within-append, clocks_after}
use Rattle.cmh_model3.proofs.Silent.{known_of_run}
use Rattle.cmh_model3.proofs.Ends.{of_path, to_path, next_edge, sort_path, each_cycle_ends_by_withdrawal}

-- a wait of one who waits itself ends only where its asker withdraws
stays : (home : ℕ → ℕ) (w : World) (e : WorldEvent) (n : World) → MarksFit home w → Step home w e n → (x y z : ℕ) → w.wait x y ≡ true → w.wait y z ≡ true → leaves x y e.entry.event ≡ false → n.wait x y ≡ true
stays home w e n fit st x y z h g no' = st.waits x y ∙ ap (λ q. begins x y e.entry.event || (not q && w.wait x y)) (no_end e.entry.event st.accepted no') ∙ ap (λ q. begins x y e.entry.event || q) h ∙ or_yes (begins x y e.entry.event)
  where
    no_end : (ev : Event) → Accepts home e.site (w.value e.site) ev → leaves x y ev ≡ false → ends x y ev ≡ false
    no_end (Ask i ks) acc out = refl
    no_end (Reply k i) acc out = false_from_ne_true _ (λ b.
        let is_y = eqb-true k y (and_parts (k == y) (i == x) b).0 in
        let at = ap home (sym is_y) ∙ acc.0 in
        let blocks = in_some ((w.value (home y)).waits y) z (fit.back y z g) in
        absurd (true≢false (sym (sym (ap (λ q. is_blocked (w.value q) y) at) ∙ blocks) ∙ ap (is_blocked (w.value e.site)) (sym is_y) ∙ acc.1)))
    no_end (Withdraw i ks) acc out = out
    no_end (Got a c f) acc out = refl
    no_end (Turn c) acc out = refl

abbrev LeftBy : ℕ → List ℕ → List WorldEvent → Type 0
LeftBy i members rest = (j : ℕ) × (k : ℕ) × IsNext i members j k × (withdrawn j k rest ≡ true)

pub stands_or_left : (home : ℕ → ℕ) (before rest : List WorldEvent) → IsRun home (before ++ rest) → (i next : ℕ) (members : List ℕ) → IsPath (Waits before) i (next ∷ members) i
    → IsPath (Waits (before ++ rest)) i (next ∷ members) i ⊎ LeftBy i (next ∷ members) rest
stands_or_left home before [] run i next members path = inl (subst (λ l. IsPath (Waits l) i (next ∷ members) i) (sym (append-nil before)) path)
stands_or_left home before (e ∷ rest) run i next members path =
    let same = append_assoc before (e ∷ []) rest in
    let fit = (known_of_run home before (run_front home before (e ∷ rest) run)).marks in
    let step = one_step home before e rest run in
    let edge = of_path (Waits before) i (next ∷ members) i path in
    elim (sort_path (Waits before) (Waits before) (λ x y. leaves x y e.entry.event) (λ x y v g. v) i (next ∷ members) i path) [
      | inr found ↦ inr (found.0, found.1, found.2, ap (λ z. z || withdrawn found.0 found.1 rest) found.3)
      | inl none ↦
          let free = of_path (λ x y. leaves x y e.entry.event ≡ false) i (next ∷ members) i none in
          let now = to_path (Waits before) (Waits (before ++ e ∷ [])) i (next ∷ members) i path (λ x y g.
          let z = onward before path x y g in
          stays home (world_of home before) e (world_of home (before ++ e ∷ [])) fit step x y z.0 (edge x y g) (edge y z.0 z.1) (free x y g)) in
          elim (stands_or_left home (before ++ e ∷ []) rest (subst (IsRun home) (sym same) run) i next members now) [
            | inl end ↦ inl (subst (λ l. IsPath (Waits l) i (next ∷ members) i) same end)
            | inr left ↦ inr (left.0, left.1, left.2, ap (λ z. leaves left.0 left.1 e.entry.event || z) left.3 ∙ or_yes (leaves left.0 left.1 e.entry.event))
          ]
    ]
  where
    onward : (before : List WorldEvent) → IsPath (Waits before) i (next ∷ members) i → (x y : ℕ) → IsNext i (next ∷ members) x y → (z : ℕ) × IsNext i (next ∷ members) y z
    onward before path x y g = elim (next_edge (Waits before) i (next ∷ members) i path x y g) [ inl z ↦ z | inr end ↦ (next, inl (sym end, refl)) ]

-- a withdrawal within a stop is one
withdrawn_early : (m j k : ℕ) (clocks : ℕ → ℕ) (es : List WorldEvent) → withdrawn j k (events_within m clocks es) ≡ true → withdrawn j k es ≡ true
withdrawn_early m j k clocks [] h = h
withdrawn_early m j k clocks (e ∷ es) h = go (withdrawn_early m j k (set_at clocks e.site (clock_after (clocks e.site) e.entry.event)) es) (is_within m (clock_after (clocks e.site) e.entry.event) e.entry.event) h
  where
    go : (withdrawn j k (events_within m (set_at clocks e.site (clock_after (clocks e.site) e.entry.event)) es) ≡ true → withdrawn j k es ≡ true) → (z : Bool)
        → withdrawn j k (if z then e ∷ events_within m (set_at clocks e.site (clock_after (clocks e.site) e.entry.event)) es else events_within m (set_at clocks e.site (clock_after (clocks e.site) e.entry.event)) es) ≡ true
        → (leaves j k e.entry.event || withdrawn j k es) ≡ true
    go f true h = elim (or_cases (leaves j k e.entry.event) (withdrawn j k (events_within m (set_at clocks e.site (clock_after (clocks e.site) e.entry.event)) es)) h) [
      | inl yes' ↦ ap (λ z. z || withdrawn j k es) yes'
      | inr more ↦ ap (λ z. leaves j k e.entry.event || z) (f more) ∙ or_yes (leaves j k e.entry.event)
    ]
    go f false h = ap (λ z. leaves j k e.entry.event || z) (f h) ∙ or_yes (leaves j k e.entry.event)

pub each_cycle_ends_later : EndsByWithdrawalLater
each_cycle_ends_later home before rest run m i next members path =
    let same = events_within-append m (λ s. 0) before rest in
    let run_m = subst (IsRun home) same (stop_is_run home (before ++ rest) run m).0 in
    elim (stands_or_left home (stop m before) (events_within m (clocks_after (λ s. 0) before) rest) run_m i next members path) [
      | inr left ↦
          let w = withdrawn_early m left.0 left.1 (clocks_after (λ s. 0) before) rest left.3 in
          inr (left.0, left.1, left.2, ap (λ z. withdrawn_past m left.0 left.1 (λ s. 0) (before ++ rest) || z) w ∙ or_yes (withdrawn_past m left.0 left.1 (λ s. 0) (before ++ rest)))
      | inl stand ↦ elim (each_cycle_ends_by_withdrawal home (before ++ rest) run m i next members (subst (λ l. IsPath (Waits l) i (next ∷ members) i) (sym same) stand)) [
        | inl end ↦ inl end
        | inr found ↦ inr (found.0, found.1, found.2, ap (λ z. z || withdrawn found.0 found.1 rest) found.3)
      ]
    ]

got_no_leave : (j k : ℕ) (ev : Event) → is_delivery ev ≡ true → leaves j k ev ≡ false
got_no_leave j k (Ask i ks) h = refl
got_no_leave j k (Reply x i) h = refl
got_no_leave j k (Withdraw i ks) h = absurd (true≢false (sym h))
got_no_leave j k (Got a c f) h = refl
got_no_leave j k (Turn c) h = refl

none_withdrawn : (j k : ℕ) (es : List WorldEvent) → AreDeliveries es → withdrawn j k es ≡ false
none_withdrawn j k [] h = refl
none_withdrawn j k (e ∷ es) h = ap (λ z. z || withdrawn j k es) (got_no_leave j k e.entry.event h.0) ∙ none_withdrawn j k es h.1

pub each_cycle_found : EachCycleFound
each_cycle_found home before rest run all drained i next members path = elim (stands_or_left home before rest run i next members path) [
  | inl stand ↦ each_cycle_declared home (before ++ rest) run drained i next members stand
  | inr left ↦ absurd (true≢false (sym left.3 ∙ none_withdrawn left.0 left.1 rest all))
]
