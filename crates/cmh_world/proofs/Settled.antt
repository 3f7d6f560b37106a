-- Deliveries come to an end, and then every frame has come and each deadlock is found.
use Rattle.std.proofs.Common.{◌||◌, ◌≡◌, ◌≢◌, ◌⊎◌, ◌↔◌, ℕ, zero, suc, ◌+◌, ◌*◌, ◌≤◌, true, false, List, [], ◌∷◌, ◌++◌, ◌==◌, length, drop, refl, sym, ap, ◌∙◌, subst, inl, inr, true≢false, arith, append_assoc, append-nil}
use Rattle.std.proofs.Math.Seq.{drop-length}
use Rattle.std.specs.List.{list_any, AllByRecursion}
use Rattle.std.proofs.lemmas.Bool.{eqb-true, eq-eqb, or_cases, or_left}
use Rattle.cmh_frames.specs.declared.frame.Frame.{Frame}
use Rattle.cmh_frames.specs.declared.frame.Frame.TheVariants.{Request, Reply as Reply_frame, Probe}
use Rattle.cmh_frames.specs.Edition.{starts_at_ask}
use Rattle.cmh_frames.specs.Topology.{Topology, IsWellFormed, sites_of}
use Rattle.cmh_frames.specs.declared.event.Event.{Event}
use Rattle.cmh_frames.specs.declared.event.Event.TheVariants.{Ask, Reply, Start, Got}
use Rattle.cmh_frames.specs.Entries.{WorldEvent}
use Rattle.cmh_frames.specs.Rules.{Accepts}
use Rattle.cmh_frames.specs.Journals.{frame_from}
use Rattle.cmh_frames.specs.Runs.{IsRun, IsDrained, entries_of, receipts, sendings, under_way, state_of}
use Rattle.cmh_frames.specs.Waits.{IsCycle, OnCycle, IsDeclared}
use Rattle.cmh_frames.specs.LastAsker.{is_ask_of, AskedLast}
use Rattle.cmh_frames.specs.Settling.{GoesOn, IsSettled, ComesToRest, most_deliveries, is_any_reply, is_delivery, most_probes}
use Rattle.cmh_frames.proofs.Deliveries.{site_listed}
use Rattle.cmh_frames.proofs.Each.{all_append}
use Rattle.cmh_frames.proofs.Fits.{FrameFits, under_way_fits}
use Rattle.cmh_frames.proofs.Journals.{run_front, whole, sent_on, got_on}
use Rattle.cmh_frames.proofs.Lawful.{lawful_states}
use Rattle.cmh_frames.proofs.Places.{frame_from-yes}
use Rattle.cmh_frames.proofs.Sums.{On}
use Rattle.cmh_world.proofs.World.{Step}
use Rattle.cmh_world.proofs.Kept.{sent_no, got_yes}
use Rattle.cmh_world.proofs.RunsSoFar.{world_of, one_step, dark_path}
use Rattle.cmh_world.proofs.LastAsker.{last_ask, waited}
use Rattle.cmh_world.proofs.DrainedRuns.{last_asker_declared, each_cycle_declared}
use Rattle.cmh_world.proofs.Delivered.{deliverable}
use Rattle.cmh_world.proofs.Measure.{frames_left, still_open, measure, open_few, delivery_is, times_one_more, falls}

-- each of the entries is a delivery
abbrev AreDeliveries : List WorldEvent → Type 0
AreDeliveries more = AllByRecursion (λ (e : WorldEvent). is_delivery e.entry.event ≡ true) more

-- ---- how many there can be

-- the measure in plain numbers
measure_within : (f u a p : ℕ) → u ≤ p → f + (u + a * p) ≤ f + (a + 1) * p
measure_within f u a p few = let one_more : (a + 1) * p ≡ a * p + p = times_one_more a p in omega arith

module _ (t : Topology) (formed : IsWellFormed t) where
  -- a delivery makes the measure of the run less
  one_falls : (before : List WorldEvent) (e : WorldEvent) (rest : List WorldEvent) → IsRun t (before ++ e ∷ rest) → is_delivery e.entry.event ≡ true → measure t (world_of t (before ++ e ∷ [])) + 1 ≤ measure t (world_of t before)
  one_falls before e rest run d =
      falls t formed (world_of t before) e (world_of t (before ++ e ∷ [])) (one_step t before e rest run)
      (lawful_states t e.site (entries_of e.site before) ((run_front t before (e ∷ rest) run).lawful e.site)).narrow d

  -- so many make it so much less
  settle_on : (before rest : List WorldEvent) → IsRun t (before ++ rest) → AreDeliveries rest → length rest + measure t (world_of t (before ++ rest)) ≤ measure t (world_of t before)
  settle_on before [] run d = let end = ap (λ z. measure t (world_of t z)) (append-nil before) in omega arith
  settle_on before (e ∷ rest) run d =
      let same = append_assoc before (e ∷ []) rest in
      let one = one_falls before e rest run d.0 in
      let more = settle_on (before ++ e ∷ []) rest (subst (IsRun t) (sym same) run) d.1 in
      let end = ap (λ z. measure t (world_of t z)) same in
      omega arith

  settles_soon : (events more : List WorldEvent) → GoesOn t events more → length more ≤ most_deliveries t events
  settles_soon events more goes =
      let fewer = settle_on events more goes.run goes.deliveries in
      let most = measure_within (frames_left t (λ f. true) (world_of t events)) (still_open t (world_of t events)) (frames_left t is_any_reply (world_of t events)) (most_probes t) (open_few t (world_of t events)) in
      omega arith

-- ---- a frame that is under way, or none

-- the first frame of a link of the run
abbrev FirstFrame : List WorldEvent → Type 0
FirstFrame events = (a : ℕ) × (b : ℕ) × (frame : Frame) × (behind : List Frame) × (under_way a b events ≡ frame ∷ behind)

-- from this site to these
busy_from : (events : List WorldEvent) (a : ℕ) (sites : List ℕ) → FirstFrame events ⊎ ((b : ℕ) → On sites b → under_way a b events ≡ [])
busy_from events a [] = inr (λ b on. absurd (true≢false (sym on)))
busy_from events a (s ∷ sites) = go (under_way a s events) refl (busy_from events a sites)
  where
    go : (queue : List Frame) → under_way a s events ≡ queue → FirstFrame events ⊎ ((b : ℕ) → On sites b → under_way a b events ≡ []) → FirstFrame events ⊎ ((b : ℕ) → On (s ∷ sites) b → under_way a b events ≡ [])
    go (frame ∷ behind) is more = inl (a, s, frame, behind, is)
    go [] is (inl one) = inl one
    go [] is (inr none) = inr (λ b on. elim (or_cases (s == b) (list_any (λ q. q == b) sites) on) [
      | inl e ↦ subst (λ z. under_way a z events ≡ []) (eqb-true s b e) is
      | inr later ↦ none b later
    ])

-- from these sites to these
busy_among : (events : List WorldEvent) (from to : List ℕ) → FirstFrame events ⊎ ((a b : ℕ) → On from a → On to b → under_way a b events ≡ [])
busy_among events [] to = inr (λ a b on_a on_b. absurd (true≢false (sym on_a)))
busy_among events (s ∷ from) to = go (busy_from events s to) (busy_among events from to)
  where
    go : FirstFrame events ⊎ ((b : ℕ) → On to b → under_way s b events ≡ []) → FirstFrame events ⊎ ((a b : ℕ) → On from a → On to b → under_way a b events ≡ []) → FirstFrame events ⊎ ((a b : ℕ) → On (s ∷ from) a → On to b → under_way a b events ≡ [])
    go (inl one) more = inl one
    go (inr none) (inl one) = inl one
    go (inr none) (inr more) = inr (λ a b on_a on_b. elim (or_cases (s == a) (list_any (λ q. q == a) from) on_a) [
      | inl e ↦ subst (λ z. under_way z b events ≡ []) (eqb-true s a e) (none b on_b)
      | inr later ↦ more a b later on_b
    ])

module _ (t : Topology) (events : List WorldEvent) (run : IsRun t events) where
  -- frames go between sites of the topology alone
  ends_listed : (a b : ℕ) (frame : Frame) → FrameFits t a b frame → On (sites_of t) a × On (sites_of t) b
  ends_listed a b (Request (x, y)) fits = (site_listed t x a fits.1, site_listed t y b fits.2)
  ends_listed a b (Reply_frame (x, y)) fits = (site_listed t x a fits.1, site_listed t y b fits.2)
  ends_listed a b (Probe (o, x, y)) fits = (site_listed t x a fits.1, site_listed t y b fits.2)

  -- where none is under way between them, all have come
  drained_from : ((a b : ℕ) → On (sites_of t) a → On (sites_of t) b → under_way a b events ≡ []) → IsDrained events
  drained_from none a b =
      sym (append-nil (receipts a b events)) ∙ ap (λ z. receipts a b events ++ z) (sym (empty (under_way a b events) refl))
      ∙ whole (receipts a b events) (sendings a b events) (run.in_order events ([], append-nil events) a b)
    where
      empty : (queue : List Frame) → under_way a b events ≡ queue → under_way a b events ≡ []
      empty [] is = is
      empty (frame ∷ behind) is =
          let ends = ends_listed a b frame (subst (AllByRecursion (FrameFits t a b)) is (under_way_fits t events run a b)).0 in
          none a b ends.0 ends.1

  -- all have come, or one can be delivered
  next_delivery : IsDrained events ⊎ ((e : WorldEvent) × (is_delivery e.entry.event ≡ true) × IsRun t (events ++ e ∷ []))
  next_delivery = elim (busy_among events (sites_of t) (sites_of t)) [
    | inl one ↦
        let more = deliverable t events run one.0 one.1 one.2 one.3 one.4 in
        inr (more.0, ap is_delivery more.2, more.3)
    | inr none ↦ inl (drained_from none)
  ]

  -- where all have come none can be delivered
  none_left : IsDrained events → IsSettled t events
  none_left drained e d longer = no_frame (sym (queue empty_queue (sent_no a e.site e (λ h. not_own f acc (sym h))) got))
    where
      a : ℕ
      a = (delivery_is e.entry.event d).0

      f : Frame
      f = (delivery_is e.entry.event d).1

      is : e.entry.event ≡ Got a f
      is = (delivery_is e.entry.event d).2

      step : Step t (world_of t events) e (world_of t (events ++ e ∷ []))
      step = one_step t events e [] longer

      acc : Accepts t e.site (state_of t e.site events) (Got a f)
      acc = subst (Accepts t e.site (state_of t e.site events)) is step.accepted

      not_own : (f : Frame) → Accepts t e.site (state_of t e.site events) (Got a f) → a ≢ e.site
      not_own (Request (x, y)) acc = acc.0
      not_own (Reply_frame (x, y)) acc = acc.0
      not_own (Probe (o, x, y)) acc = acc.0

      empty_queue : under_way a e.site events ≡ []
      empty_queue = ap (λ z. drop (length z) (sendings a e.site events)) (drained a e.site) ∙ drop-length (sendings a e.site events)

      got : got_on a e.site e ≡ f ∷ []
      got = got_yes a e.site e refl ∙ ap (frame_from a) is ∙ frame_from-yes a a f refl

      queue : under_way a e.site events ≡ [] → sent_on a e.site e ≡ [] → got_on a e.site e ≡ f ∷ [] → [] ≡ f ∷ under_way a e.site (events ++ e ∷ [])
      queue none sent got = ap (λ z. z ++ []) (sym none) ∙ ap (λ z. under_way a e.site events ++ z) (sym sent) ∙ step.links a e.site ∙ ap (λ z. z ++ under_way a e.site (events ++ e ∷ [])) got

      no_frame : {fs : List Frame} → f ∷ fs ≡ [] → ⊥
      no_frame h = cc

  settled_drained : IsSettled t events ↔ IsDrained events
  settled_drained = (λ settled. elim next_delivery [ inl drained ↦ drained | inr one ↦ absurd (settled one.0 one.1 one.2) ], none_left)

-- ---- deliveries until every frame has come

module _ (t : Topology) (formed : IsWellFormed t) where
  -- the list with one delivery first
  one_first : (events : List WorldEvent) (e : WorldEvent) → is_delivery e.entry.event ≡ true → ((more : List WorldEvent) × GoesOn t (events ++ e ∷ []) more × IsDrained ((events ++ e ∷ []) ++ more))
      → (more : List WorldEvent) × GoesOn t events more × IsDrained (events ++ more)
  one_first events e d x =
      let same = append_assoc events (e ∷ []) x.0 in
      (e ∷ x.0, record { run = subst (IsRun t) same x.1.run; deliveries = (d, x.1.deliveries) }, subst IsDrained same x.2)

  -- nothing more
  none_more : (events : List WorldEvent) → IsRun t events → IsDrained events → (more : List WorldEvent) × GoesOn t events more × IsDrained (events ++ more)
  none_more events run drained =
      let same = sym (append-nil events) in
      ([], record { run = subst (IsRun t) same run; deliveries = tt }, subst IsDrained same drained)

  drains_within : (fuel : ℕ) (events : List WorldEvent) → IsRun t events → measure t (world_of t events) ≤ fuel → (more : List WorldEvent) × GoesOn t events more × IsDrained (events ++ more)
  drains_within zero events run few = elim (next_delivery t events run) [
    | inl drained ↦ none_more events run drained
    | inr one ↦ let less = one_falls t formed events one.0 [] one.2 one.1 in absurd (omega arith)
  ]
  drains_within (suc fuel) events run few = elim (next_delivery t events run) [
    | inl drained ↦ none_more events run drained
    | inr one ↦
        let less = one_falls t formed events one.0 [] one.2 one.1 in
        one_first events one.0 one.1 (drains_within fuel (events ++ one.0 ∷ []) one.2 (omega arith))
  ]

  pub comes_to_rest : (events : List WorldEvent) → IsRun t events → ComesToRest t events
  comes_to_rest events run = record {
    soon = settles_soon t formed events;
    drained = λ more goes. settled_drained t (events ++ more) goes.run;
    reached = drains_within (measure t (world_of t events)) events run (omega arith);
  }

-- ---- each deadlock is found

-- no delivery is an ask
no_ask : (members : List ℕ) (ev : Event) → is_delivery ev ≡ true → list_any (λ p. is_ask_of p ev) members ≡ false
no_ask [] ev d = refl
no_ask (p ∷ ps) ev d = ap (λ b. b || list_any (λ p. is_ask_of p ev) ps) (not_one ev d) ∙ no_ask ps ev d
  where
    not_one : (ev : Event) → is_delivery ev ≡ true → is_ask_of p ev ≡ false
    not_one (Ask x y) d = absurd (true≢false (sym d))
    not_one (Reply x y) d = absurd (true≢false (sym d))
    not_one (Start x) d = absurd (true≢false (sym d))
    not_one (Got a f) d = refl

no_asks : (members : List ℕ) (more : List WorldEvent) → AreDeliveries more → AllByRecursion (λ (e : WorldEvent). list_any (λ p. is_ask_of p e.entry.event) members ≡ false) more
no_asks members [] d = tt
no_asks members (e ∷ more) d = (no_ask members e.entry.event d.0, no_asks members more d.1)

-- who asked last before the deliveries did so after them
asked_last_on : (events more : List WorldEvent) (members : List ℕ) (d : ℕ) → AreDeliveries more → AskedLast events members d → AskedLast (events ++ more) members d
asked_last_on events more members d deliveries last = record {
  member = last.member;
  before = last.before;
  ask = last.ask;
  later = last.later ++ more;
  whole = ap (λ z. z ++ more) last.whole ∙ append_assoc last.before (last.ask ∷ last.later) more;
  asks = last.asks;
  none_later = all_append _ last.later more last.none_later (no_asks members more deliveries);
}

-- a cycle has a member that asked last
some_last : (events : List WorldEvent) (i : ℕ) (members : List ℕ) → IsCycle events i members → (d : ℕ) × AskedLast events members d
some_last events i [] h = absurd h
some_last events i (first ∷ []) h = absurd h
some_last events i (first ∷ second ∷ others) h = elim (last_ask events (first ∷ second ∷ others)) [
  | inl one ↦ one
  | inr none ↦ absurd (true≢false (sym (waited (first ∷ second ∷ others) first second false events (or_left (first == first) (list_any (λ z. z == first) (second ∷ others)) (eq-eqb first first refl)) none h.1.0)))
]

pub each_deadlock_found : (t : Topology) → starts_at_ask t.edition ≡ true → (events more : List WorldEvent) → GoesOn t events more → IsSettled t (events ++ more)
    → (i : ℕ) (members : List ℕ) → IsCycle events i members → (d : ℕ) × AskedLast events members d × IsDeclared (events ++ more) d
each_deadlock_found t two events more goes settled i members cycle =
    let drained = (settled_drained t (events ++ more) goes.run).0 settled in
    let last = some_last events i members cycle in
    let stays = (dark_path t (events ++ more) goes.run).kept events (more, refl) i members cycle in (
      last.0,
      last.1,
      (last_asker_declared t (events ++ more) two goes.run drained).declared i members stays last.0 (asked_last_on events more members last.0 goes.deliveries last.1),
    )

-- somebody is declared exactly where there is a cycle
pub rest_tells : (t : Topology) → starts_at_ask t.edition ≡ true → (events : List WorldEvent) → IsRun t events → IsSettled t events → ((i : ℕ) × OnCycle events i) ↔ ((i : ℕ) × IsDeclared events i)
rest_tells t two events run settled =
    let drained = (settled_drained t events run).0 settled in (
      λ on. let one = each_cycle_declared t events two run drained on.0 on.1.0 on.1.1 in (one.0, one.2),
      λ d. (d.0, (dark_path t events run).declared d.0 d.1),
    )
