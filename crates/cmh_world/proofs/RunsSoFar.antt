-- What holds at every moment of a run.
use Rattle.std.proofs.Common.{◌≡◌, ℕ, true, false, List, [], ◌∷◌, ◌++◌, refl, sym, ap, ◌∙◌, subst, inl, inr, true≢false, arith, append_assoc, append-nil}
use Rattle.std.proofs.lemmas.List.{append_cancel_left}
use Rattle.cmh_frames.specs.declared.frame.Frame.TheVariants.{Probe}
use Rattle.cmh_frames.specs.Entries.{WorldEvent}
use Rattle.cmh_frames.specs.Topology.{Topology, At}
use Rattle.cmh_frames.specs.State.{empty_state, is_blocked}
use Rattle.cmh_frames.specs.Paths.{IsPath}
use Rattle.cmh_frames.specs.Journals.{state_after, LawfulFrom}
use Rattle.cmh_frames.specs.Runs.{entries_of, sendings, receipts, IsRun, under_way, state_of}
use Rattle.cmh_frames.specs.Waits.{wait_after, Waits, IsCycle, OnCycle, IsDeclared}
use Rattle.cmh_frames.specs.Laws.{bit, Facts, DarkPath}
use Rattle.cmh_frames.proofs.Pairs.{has-empty}
use Rattle.cmh_frames.proofs.Edges.{empty_has_none}
use Rattle.cmh_frames.proofs.Journals.{sent_on, got_on}
use Rattle.cmh_world.proofs.World.{World, Step, Invariant, wait_blocks}
use Rattle.cmh_world.proofs.Kept.{kept, cycle_kept, declared_cycle}
use Rattle.cmh_frames.proofs.Journals.{entries_here, entries_elsewhere, entries_of-append, state_after-append, lawful_rest, sendings-more, receipts-more, wait_after-append, whole, run_front}

-- the world at the end of a list of events
abbrev pub world_of : Topology → List WorldEvent → World
world_of t events = record { value = λ s. state_of t s events; queue = λ a b. under_way a b events; wait = λ j k. wait_after false j k events }

-- the next entry of a run is a step of the world
pub one_step : (t : Topology) (before : List WorldEvent) (e : WorldEvent) (rest : List WorldEvent) → IsRun t (before ++ e ∷ rest) → Step t (world_of t before) e (world_of t (before ++ e ∷ []))
one_step t before e rest run = record {
  accepted = lawful.0;
  sends = lawful.1;
  here = ap (state_after t e.site empty_state) (entries_of-append e.site before (e ∷ []) ∙ ap (λ z. entries_of e.site before ++ z) (entries_here e.site e [] refl))
      ∙ state_after-append t e.site empty_state (entries_of e.site before) (e.entry ∷ []);
  elsewhere = λ a n. ap (state_after t a empty_state) (entries_of-append a before (e ∷ []) ∙ ap (λ z. entries_of a before ++ z) (entries_elsewhere a e [] (λ h. n (sym h))) ∙ append-nil (entries_of a before));
  links = links;
  waits = λ j k. wait_after-append false j k before (e ∷ []);
}
  where
    lawful : LawfulFrom t e.site (state_of t e.site before) (e.entry ∷ entries_of e.site rest)
    lawful = lawful_rest t e.site empty_state (entries_of e.site before) (e.entry ∷ entries_of e.site rest)
        (subst (LawfulFrom t e.site empty_state) (entries_of-append e.site before (e ∷ rest) ∙ ap (λ z. entries_of e.site before ++ z) (entries_here e.site e rest refl)) (run.lawful e.site))

    links : (a b : ℕ) → under_way a b before ++ sent_on a b e ≡ got_on a b e ++ under_way a b (before ++ e ∷ [])
    links a b =
        let old = whole (receipts a b before) (sendings a b before) (run.in_order before (e ∷ rest, refl) a b) in
        let new = whole (receipts a b (before ++ e ∷ [])) (sendings a b (before ++ e ∷ [])) (run.in_order (before ++ e ∷ []) (rest, append_assoc before (e ∷ []) rest) a b) in
        let sent = sendings-more a b before e in
        let got = receipts-more a b before e in
        append_cancel_left (receipts a b before) (under_way a b before ++ sent_on a b e) (got_on a b e ++ under_way a b (before ++ e ∷ []))
        (sym (append_assoc (receipts a b before) (under_way a b before) (sent_on a b e)) ∙ ap (λ z. z ++ sent_on a b e) old ∙ sym sent ∙ sym new
        ∙ ap (λ z. z ++ under_way a b (before ++ e ∷ [])) got ∙ append_assoc (receipts a b before) (got_on a b e) (under_way a b (before ++ e ∷ [])))

-- it holds of the world in which nothing happened
pub invariant_first : (t : Topology) → Invariant t (world_of t [])
invariant_first t = record {
  own_link = λ a. refl;
  each = λ a b j k at_j at_k. let x = ap bit (has-empty k j) in let y = ap bit (has-empty j k) in (omega arith, omega arith);
  known = λ j k h. absurd (true≢false (sym h));
  dependents = λ b k i h. absurd (true≢false (sym h ∙ has-empty k i));
  probes = λ a b i j k earlier behind h. absurd (empty_has_none earlier (Probe (i, j, k)) behind h);
}

-- what holds at a moment holds at every later one
invariant_on : (t : Topology) (before rest : List WorldEvent) → IsRun t (before ++ rest) → Invariant t (world_of t before) → Invariant t (world_of t (before ++ rest))
invariant_on t before [] run inv = subst (λ z. Invariant t (world_of t z)) (sym (append-nil before)) inv
invariant_on t before (e ∷ rest) run inv =
    let same = append_assoc before (e ∷ []) rest in
    subst (λ z. Invariant t (world_of t z)) same (invariant_on t (before ++ e ∷ []) rest (subst (IsRun t) (sym same) run)
    (kept t (world_of t before) e (world_of t (before ++ e ∷ [])) inv (one_step t before e rest run)))

-- it holds of the world at the end of a run
pub invariant_of_run : (t : Topology) (events : List WorldEvent) → IsRun t events → Invariant t (world_of t events)
invariant_of_run t events run = invariant_on t [] events run (invariant_first t)

-- a cycle of a beginning is one at the end
cycle_on : (t : Topology) (before rest : List WorldEvent) (i : ℕ) (members : List ℕ) → IsRun t (before ++ rest) → Invariant t (world_of t before) → IsCycle before i members → IsCycle (before ++ rest) i members
cycle_on t before [] i members run inv h = subst (λ z. IsCycle z i members) (sym (append-nil before)) h
cycle_on t before (e ∷ rest) i members run inv h =
    let same = append_assoc before (e ∷ []) rest in
    let step = one_step t before e rest run in
    subst (λ z. IsCycle z i members) same (cycle_on t (before ++ e ∷ []) rest i members (subst (IsRun t) (sym same) run)
    (kept t (world_of t before) e (world_of t (before ++ e ∷ [])) inv step) (stays members step h))
  where
    stays : (members : List ℕ) → Step t (world_of t before) e (world_of t (before ++ e ∷ [])) → IsCycle before i members → IsCycle (before ++ e ∷ []) i members
    stays [] step h = h
    stays (first ∷ []) step h = h
    stays (first ∷ second ∷ others) step h =
        let new = cycle_kept t (world_of t before) e (world_of t (before ++ e ∷ [])) inv step first second others h.1.0 (subst (λ z. IsPath (Waits before) second others z) (sym h.0) h.1.1) in
        (h.0, (new.0, subst (λ z. IsPath (Waits (before ++ e ∷ [])) second others z) h.0 new.1))

-- whoever a later entry declares lies on a cycle at the end
declared_on : (t : Topology) (before rest : List WorldEvent) (i : ℕ) → IsRun t (before ++ rest) → Invariant t (world_of t before) → IsDeclared rest i → OnCycle (before ++ rest) i
declared_on t before [] i run inv h = absurd h
declared_on t before (e ∷ rest) i run inv h =
    let same = append_assoc before (e ∷ []) rest in
    let step = one_step t before e rest run in
    let next = kept t (world_of t before) e (world_of t (before ++ e ∷ [])) inv step in
    let run_here = subst (IsRun t) (sym same) run in
    subst (λ z. OnCycle z i) same (elim h [
      | inl now ↦
          let lead = declared_cycle t (world_of t before) e (world_of t (before ++ e ∷ [])) inv step i now in
          (i ∷ lead.0 ∷ lead.1, cycle_on t (before ++ e ∷ []) rest i (i ∷ lead.0 ∷ lead.1) run_here next (refl, (lead.2, lead.3)))
      | inr later ↦ declared_on t (before ++ e ∷ []) rest i run_here next later
    ])

-- what holds of the world, in the words of the law
facts : (t : Topology) (events : List WorldEvent) → Invariant t (world_of t events) → Facts t events
facts t events inv = record {
  dependents = inv.dependents;
  probes = inv.probes;
  each_wait = λ a b j k at_j at_k. (inv.each a b j k at_j at_k).0;
  blocked = λ i cycle. on i cycle.0 cycle.1;
}
  where
    on : (i : ℕ) (members : List ℕ) → IsCycle events i members → (a : ℕ) × At t i a × (is_blocked (state_of t a events) i ≡ true)
    on i [] h = absurd h
    on i (first ∷ []) h = absurd h
    on i (first ∷ second ∷ others) h = subst (λ z. (a : ℕ) × At t z a × (is_blocked (state_of t a events) z ≡ true)) h.0 (wait_blocks t (world_of t events) inv first second h.1.0)

-- the dark path law
pub dark_path : (t : Topology) (events : List WorldEvent) → IsRun t events → DarkPath t events
dark_path t events run = record {
  facts = λ so_far begins. facts t so_far (invariant_of_run t so_far (run_front t so_far begins.0 (subst (IsRun t) (sym begins.1) run)));
  kept = λ so_far begins i members cycle.
      let run_here = subst (IsRun t) (sym begins.1) run in
      subst (λ z. IsCycle z i members) begins.1 (cycle_on t so_far begins.0 i members run_here (invariant_of_run t so_far (run_front t so_far begins.0 run_here)) cycle);
  declared = λ i h. declared_on t [] events i run (invariant_first t) h;
}
