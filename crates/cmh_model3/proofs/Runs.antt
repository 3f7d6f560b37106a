-- A run is a walk of steps.
use Rattle.std.proofs.Common.{◌≡◌, ◌≤◌, ℕ, Bool, true, false, not, ◌&&◌, ◌||◌, List, [], ◌∷◌, ◌++◌, if◌then◌else◌, refl, sym, ap, ◌∙◌, subst, inl, inr, true≢false, append-nil, append_assoc, arith}
use Rattle.std.proofs.lemmas.Bool.{cases_eq, eq-eqb, ne_eqb}
use Rattle.std.proofs.lemmas.List.{append_cancel_left}
use Rattle.cmh_model3.specs.declared.frame.Message.{Message}
use Rattle.cmh_model3.specs.Lists.{set_at}
use Rattle.cmh_model3.specs.Entries.{WorldEvent}
use Rattle.cmh_model3.specs.State.{State, empty_state}
use Rattle.cmh_model3.specs.Paths.{IsPath}
use Rattle.cmh_model3.specs.Rules.{clock_after, after}
use Rattle.cmh_model3.specs.Journals.{LawfulFrom, state_after, rules_of, message_from}
use Rattle.cmh_model3.specs.Runs.{state_of, entries_of, sendings, receipts, under_way, IsRun}
use Rattle.cmh_model3.specs.Waits.{begins, ends, wait_after, Waits, OnCycle}
use Rattle.cmh_model3.specs.Stops.{is_within, events_within, stop}
use Rattle.cmh_model3.specs.Laws.{NoPhantom}
use Rattle.cmh_model3.proofs.World.{World, Step, sent_on, got_on}
use Rattle.cmh_model3.proofs.Invariants.{Holds, SettledCycle, SettledPath}
use Rattle.cmh_runs.proofs.Beginnings.{whole}
use Rattle.cmh_runs.proofs.Journals as runs
use Rattle.cmh_model3.proofs.Cuts.{run_front}
use Rattle.cmh_model3.proofs.Settled.{settled_path}
use Rattle.cmh_model3.proofs.Held.{all_kept, step_declares}

-- the world at the end of a list of events
abbrev pub world_of : (ℕ → ℕ) → List WorldEvent → World
world_of home events = record {
  value = λ s. state_of home s events;
  queue = λ a b. under_way a b events;
  wait = λ j k. wait_after false j k events;
  early = λ m j k. wait_after false j k (stop m events);
}

pub wait-append : (b : Bool) (j k : ℕ) (xs ys : List WorldEvent) → wait_after b j k (xs ++ ys) ≡ wait_after (wait_after b j k xs) j k ys
wait-append b j k [] ys = refl
wait-append b j k (x ∷ xs) ys = wait-append (begins j k x.entry.event || (not (ends j k x.entry.event) && b)) j k xs ys

-- the clocks after these events
abbrev pub clocks_after : (ℕ → ℕ) → List WorldEvent → ℕ → ℕ
clocks_after clocks [] = clocks
clocks_after clocks (e ∷ es) = clocks_after (set_at clocks e.site (clock_after (clocks e.site) e.entry.event)) es

pub events_within-append : (m : ℕ) (clocks : ℕ → ℕ) (xs ys : List WorldEvent) → events_within m clocks (xs ++ ys) ≡ events_within m clocks xs ++ events_within m (clocks_after clocks xs) ys
events_within-append m clocks [] ys = refl
events_within-append m clocks (x ∷ xs) ys = go (is_within m (clock_after (clocks x.site) x.entry.event) x.entry.event) _ _ _ (events_within-append m (set_at clocks x.site (clock_after (clocks x.site) x.entry.event)) xs ys)
  where
    go : (z : Bool) (l r q : List WorldEvent) → l ≡ r ++ q → (if z then x ∷ l else l) ≡ (if z then x ∷ r else r) ++ q
    go true l r q h = ap (λ t. x ∷ t) h
    go false l r q h = h

pub clocks_are : (home : ℕ → ℕ) (clocks : ℕ → ℕ) (s : ℕ) (v : State) (es : List WorldEvent) → clocks s ≡ v.clock → clocks_after clocks es s ≡ (state_after home s v (entries_of s es)).clock
clocks_are home clocks s v [] h = h
clocks_are home clocks s v (e ∷ es) h = elim (cases_eq e.site s) [
  | inl at ↦
      clocks_are home (set_at clocks e.site (clock_after (clocks e.site) e.entry.event)) s (after home s v e.entry.event e.entry.declared) es
      (ap (λ z. if z then clock_after (clocks e.site) e.entry.event else clocks s) (eq-eqb s e.site (sym at)) ∙ ap (λ q. clock_after (clocks q) e.entry.event) at ∙ ap (λ c. clock_after c e.entry.event) h)
      ∙ sym (ap (λ z. (state_after home s v (if z then e.entry ∷ entries_of s es else entries_of s es)).clock) (eq-eqb e.site s at))
  | inr far ↦
      clocks_are home (set_at clocks e.site (clock_after (clocks e.site) e.entry.event)) s v es
      (ap (λ z. if z then clock_after (clocks e.site) e.entry.event else clocks s) (ne_eqb s e.site (λ g. far (sym g))) ∙ h)
      ∙ sym (ap (λ z. (state_after home s v (if z then e.entry ∷ entries_of s es else entries_of s es)).clock) (ne_eqb e.site s far))
]

-- the next entry of a run is a step of the world
pub one_step : (home : ℕ → ℕ) (before : List WorldEvent) (e : WorldEvent) (rest : List WorldEvent) → IsRun home (before ++ e ∷ rest) → Step home (world_of home before) e (world_of home (before ++ e ∷ []))
one_step home before e rest run = record {
  accepted = lawful.0;
  sends = lawful.1;
  here = ap (state_after home e.site empty_state) (runs.entries_of-append e.site before (e ∷ []) ∙ ap (λ z. entries_of e.site before ++ z) (ap (λ z. if z then e.entry ∷ [] else []) (eq-eqb e.site e.site refl)))
      ∙ runs.state_after-append (rules_of home e.site) empty_state (entries_of e.site before) (e.entry ∷ []);
  elsewhere = λ a n. ap (state_after home a empty_state) (runs.entries_of-append a before (e ∷ []) ∙ ap (λ z. entries_of a before ++ z) (ap (λ z. if z then e.entry ∷ [] else []) (ne_eqb e.site a (λ h. n (sym h)))) ∙ append-nil (entries_of a before));
  links = links;
  waits = λ j k. wait-append false j k before (e ∷ []);
  earlier = earlier;
}
  where
    lawful : LawfulFrom home e.site (state_of home e.site before) (e.entry ∷ entries_of e.site rest)
    lawful = runs.lawful_rest (rules_of home e.site) empty_state (entries_of e.site before) (e.entry ∷ entries_of e.site rest)
        (subst (LawfulFrom home e.site empty_state) (runs.entries_of-append e.site before (e ∷ rest) ∙ ap (λ z. entries_of e.site before ++ z) (ap (λ z. if z then e.entry ∷ entries_of e.site rest else entries_of e.site rest) (eq-eqb e.site e.site refl))) (run.lawful e.site))

    links : (a b : ℕ) → under_way a b before ++ sent_on a b e ≡ got_on a b e ++ under_way a b (before ++ e ∷ [])
    links a b =
        let old = whole (receipts a b before) (sendings a b before) (run.in_order before (e ∷ rest, refl) a b) in
        let new = whole (receipts a b (before ++ e ∷ [])) (sendings a b (before ++ e ∷ [])) (run.in_order (before ++ e ∷ []) (rest, append_assoc before (e ∷ []) rest) a b) in
        let sent = runs.sendings-more a b before e in
        let got = runs.receipts-more message_from a b before e in
        append_cancel_left (receipts a b before) (under_way a b before ++ sent_on a b e) (got_on a b e ++ under_way a b (before ++ e ∷ []))
        (sym (append_assoc (receipts a b before) (under_way a b before) (sent_on a b e)) ∙ ap (λ z. z ++ sent_on a b e) old ∙ sym sent ∙ sym new
        ∙ ap (λ z. z ++ under_way a b (before ++ e ∷ [])) got ∙ append_assoc (receipts a b before) (got_on a b e) (under_way a b (before ++ e ∷ [])))

    clock : clocks_after (λ s. 0) before e.site ≡ (state_of home e.site before).clock
    clock = clocks_are home (λ s. 0) e.site empty_state before refl

    earlier : (m j k : ℕ) → wait_after false j k (stop m (before ++ e ∷ []))
        ≡ (if is_within m (clock_after (state_of home e.site before).clock e.entry.event) e.entry.event
        then begins j k e.entry.event || (not (ends j k e.entry.event) && wait_after false j k (stop m before)) else wait_after false j k (stop m before))
    earlier m j k =
        ap (wait_after false j k) (events_within-append m (λ s. 0) before (e ∷ [])) ∙ wait-append false j k (stop m before) (events_within m (clocks_after (λ s. 0) before) (e ∷ []))
        ∙ go (is_within m (clock_after (clocks_after (λ s. 0) before e.site) e.entry.event) e.entry.event)
        ∙ ap (λ c. if is_within m (clock_after c e.entry.event) e.entry.event then begins j k e.entry.event || (not (ends j k e.entry.event) && wait_after false j k (stop m before)) else wait_after false j k (stop m before)) clock
      where
        go : (z : Bool) → wait_after (wait_after false j k (stop m before)) j k (if z then e ∷ [] else []) ≡ (if z then begins j k e.entry.event || (not (ends j k e.entry.event) && wait_after false j k (stop m before)) else wait_after false j k (stop m before))
        go true = refl
        go false = refl

-- it holds of the world in which nothing happened
pub holds_first : (home : ℕ → ℕ) → Holds home (world_of home [])
holds_first home = record {
  single = record { far = λ j k apart. (omega arith, omega arith); own = λ j k same. (refl, refl) };
  stamps = record { behind = λ x. omega arith; low = λ x y. omega arith; stands = λ x y m h g l. absurd (true≢false (sym h)) };
  agrees = record {
    far = λ j k apart h. absurd (true≢false (sym h));
    newer = λ j k apart c ahead behind parts h. absurd (true≢false (sym h));
    own = λ j k same h. absurd (true≢false (sym h));
  };
  probes = λ a b c i m j k ahead behind h. absurd (none _ ahead behind h);
}
  where
    none : (p : Message) (ahead behind : List Message) → [] ≡ ahead ++ p ∷ behind → ⊥
    none p [] behind h = cc h
    none p (y ∷ ys) behind h = cc h

-- what holds at a moment holds at every later one
pub holds_on : (home : ℕ → ℕ) (before rest : List WorldEvent) → IsRun home (before ++ rest) → Holds home (world_of home before) → Holds home (world_of home (before ++ rest))
holds_on home before [] run h = subst (λ z. Holds home (world_of home z)) (sym (append-nil before)) h
holds_on home before (e ∷ rest) run h =
    let same = append_assoc before (e ∷ []) rest in
    subst (λ z. Holds home (world_of home z)) same (holds_on home (before ++ e ∷ []) rest (subst (IsRun home) (sym same) run)
    (all_kept home (world_of home before) e (world_of home (before ++ e ∷ [])) h (one_step home before e rest run)))

pub holds_of_run : (home : ℕ → ℕ) (events : List WorldEvent) → IsRun home events → Holds home (world_of home events)
holds_of_run home events run = holds_on home [] events run (holds_first home)

-- a settled path stays
pub path_on : (home : ℕ → ℕ) (m i j : ℕ) (members : List ℕ) (before rest : List WorldEvent) → IsRun home (before ++ rest) → SettledPath home (world_of home before) m i members j → SettledPath home (world_of home (before ++ rest)) m i members j
path_on home m i j members before [] run h = subst (λ z. SettledPath home (world_of home z) m i members j) (sym (append-nil before)) h
path_on home m i j members before (e ∷ rest) run h =
    let same = append_assoc before (e ∷ []) rest in
    let path = settled_path home (world_of home before) e (world_of home (before ++ e ∷ [])) (one_step home before e rest run) m i j members h in
    subst (λ z. SettledPath home (world_of home z) m i members j) same (path_on home m i j members (before ++ e ∷ []) rest (subst (IsRun home) (sym same) run) path)

pub waits_path : (home : ℕ → ℕ) (m : ℕ) (events : List WorldEvent) (p : ℕ) (members : List ℕ) (q : ℕ) → SettledPath home (world_of home events) m p members q → IsPath (Waits (stop m events)) p members q
waits_path home m events p [] q h = h
waits_path home m events p (x ∷ xs) q h = (h.0.0, waits_path home m events x xs q h.1)

pub no_phantom : NoPhantom
no_phantom home before e rest run i h =
    let same = append_assoc before (e ∷ []) rest in
    let now : Holds home (world_of home before) = holds_of_run home before (run_front home before (e ∷ rest) run) in
    let found = step_declares home (world_of home before) e (world_of home (before ++ e ∷ [])) now (one_step home before e rest run) i h in
    let m : ℕ = found.0 in
    let cycle : SettledCycle home (world_of home (before ++ e ∷ [])) m i = found.2 in
    let on : SettledPath home (world_of home (before ++ e ∷ rest)) m i (cycle.0 ∷ cycle.1) i =
    subst (λ z. SettledPath home (world_of home z) m i (cycle.0 ∷ cycle.1) i) same (path_on home m i i (cycle.0 ∷ cycle.1) (before ++ e ∷ []) rest (subst (IsRun home) (sym same) run) (cycle.2, cycle.3)) in
    let there : OnCycle (stop m (before ++ e ∷ rest)) i = (cycle.0, cycle.1, (on.0.0, waits_path home m (before ++ e ∷ rest) cycle.0 cycle.1 i on.1)) in
    (subst (λ z. OnCycle (stop z (before ++ e ∷ rest)) i) found.3 there, subst (λ z. z ≤ (state_of home (home i) (before ++ e ∷ [])).stamp i) found.3 found.1)
