-- The order in which a merge takes entries is that of a run.
use Rattle.std.proofs.Common.{◌≡◌, ℕ, zero, suc, ◌+◌, ◌<◌, ◌==◌, Bool, true, false, if◌then◌else◌, List, Option, [], ◌∷◌, ◌++◌, length, map, set, replicate, get_or, slice_get, option_map, option_and_then, Some, ⊎_elim, sym, ap, subst, subst₂, refl, ◌∙◌, arith}
use Rattle.std.specs.Prelude.{MatchBool}
use Rattle.std.proofs.lemmas.Bool.{cases_eq, eq-eqb, ne_eqb}
use Rattle.std.proofs.lemmas.List.{get_or-set_same, get_or-set_other, map-append}
use Rattle.std.proofs.lemmas.Option.{slice_get_read}
use Rattle.cmh_frames.specs.Topology.{Topology}
use Rattle.cmh_frames.specs.Entries.{Entry, WorldEvent}
use Rattle.cmh_frames.specs.Laws.{bit, count_of}
use Rattle.cmh_frames.specs.Runs.{IsBeginningOf}
use Rattle.cmh_frames.proofs.Beginnings.{beginning_push, push_eq}
use Rattle.cmh_frames.proofs.LongerRuns.{run_first}
use Rattle.cmh_journal.specs.Journal.{Journal}
use Rattle.cmh_audit.specs.declared.step.Step.{Step}
use Rattle.cmh_audit.specs.Journals.{journal_of}
use Rattle.cmh_audit.specs.Inner.Places.{OneEach}
use Rattle.cmh_world.specs.Links.{Links}
use Rattle.cmh_audit.specs.Inner.Merging.{taken_of, IsNextFrame, MovesFrames, AreLawfulLengths}
use Rattle.cmh_audit.specs.Inner.Orders.{AreInTurn, IsOrder, steps_of}
use Rattle.cmh_audit.specs.Runs.{event_at, IsRunOf}
use Rattle.cmh_audit.proofs.CountLemmas.{taken_none, limit_here}
use Rattle.cmh_audit.proofs.MergeLemmas.{Merging, run_more, entries_more}

-- ---- counting steps

count-push : {X : Type 0} (test : X → Bool) (xs : List X) (x : X) → count_of test (xs ++ x ∷ []) ≡ count_of test xs + bit (test x)
count-push test [] x = omega arith
count-push test (y ∷ xs) x = let more = count-push test xs x in omega (arith, more)

steps-push : (k : ℕ) (steps : List Step) (s : Step) → steps_of k (steps ++ s ∷ []) ≡ steps_of k steps + bit (s.journal == k)
steps-push k steps s = count-push (λ (step : Step). step.journal == k) steps s

-- ---- nothing was taken

none_begins : (before : List Step) (step : Step) → IsBeginningOf (before ++ step ∷ []) [] → ⊥
none_begins [] step p = let h : step ∷ p.0 ≡ [] = p.1 in cc
none_begins (x ∷ before) step p = let h : x ∷ ((before ++ step ∷ []) ++ p.0) ≡ [] = p.1 in cc

get_or-zeros : (n k : ℕ) → get_or (replicate n zero) k zero ≡ zero
get_or-zeros zero k = refl
get_or-zeros (suc n) zero = refl
get_or-zeros (suc n) (suc k) = get_or-zeros n k

pub order_start : (t : Topology) (js : List Journal) → IsOrder t js (replicate (length js) 0) []
order_start t js = record {
  events = [];
  are = refl;
  in_turn = λ before step p. absurd (none_begins before step p);
  run = run_first t;
  come = λ site. sym (taken_none js (length js) site);
  counted = λ k. sym (get_or-zeros (length js) k);
}

-- ---- one more step

-- the entry that a step takes
pub event_here : (js : List Journal) (k n : ℕ) (j : Journal) (e : Entry) → k < length js → j ≡ get_or js k j → n < length j.entries → e ≡ get_or j.entries n e →
    event_at js (record { journal = k; entry = n }) ≡ Some (record { site = j.site; entry = e })
event_here js k n j e l here within is =
    let F : Journal → Option WorldEvent = λ x. option_map (λ (y : Entry). record { site = x.site; entry = y }) (slice_get x.entries n) in
    ap (option_and_then F) (slice_get_read js (length js) k j refl l here)
    ∙ ap (option_map (λ (y : Entry). record { site = j.site; entry = y })) (slice_get_read j.entries (length j.entries) n e refl within is)

turn_more : (steps : List Step) (s : Step) → AreInTurn steps → s.entry ≡ steps_of s.journal steps → AreInTurn (steps ++ s ∷ [])
turn_more steps s turn here before step p =
    ⊎_elim
    (λ q. turn before step q)
    (λ whole.
    let same = push_eq before steps step s whole in
    let P : List Step → Step → Type 0 = λ b x. x.entry ≡ steps_of x.journal b in
    subst₂ P (sym same.0) (sym same.1) here)
    (beginning_push (before ++ step ∷ []) steps s p)

module _ (t : Topology) (js : List Journal) (limits counts : List ℕ) (old new : Links) (one : OneEach js) (are : AreLawfulLengths t js limits) (m : Merging t js limits counts old)
    (k : ℕ) (j : Journal) (l : k < length js) (here : j ≡ get_or js k j) (e : Entry) (room : get_or counts k 0 < get_or limits k 0) (is : e ≡ get_or j.entries (get_or counts k 0) e)
    (next : IsNextFrame old j.site e.event) (moves : MovesFrames old new j.site e) (steps : List Step) (o : IsOrder t js counts steps) where
  -- the merge under way, with this run for its own
  ordered : Merging t js limits counts old
  ordered = record { each = m.each; below = m.below; comes = (o.events, o.run, o.come); frames = m.frames }

  in_journal : get_or counts k 0 < length j.entries
  in_journal = let h = (limit_here t js limits k j are l here).within in omega (arith, h, room)

  counted_more : (q : ℕ) → steps_of q (steps ++ record { journal = k; entry = get_or counts k 0 } ∷ []) ≡ get_or (set counts k (get_or counts k 0 + 1)) q 0
  counted_more q =
      let s : Step = record { journal = k; entry = get_or counts k 0 } in
      let push = steps-push q steps s in
      let so_far = o.counted q in
      ⊎_elim
      (λ (h : k ≡ q).
      let inside : k < length counts = subst (λ n. k < n) (sym m.each) l in
      let one_more = ap bit (eq-eqb k q h) in
      let set_to : get_or (set counts k (get_or counts k 0 + 1)) q 0 ≡ get_or counts k 0 + 1 =
      subst (λ x. get_or (set counts k (get_or counts k 0 + 1)) x 0 ≡ get_or counts k 0 + 1) h (get_or-set_same counts k (get_or counts k 0 + 1) 0 inside) in
      let was : get_or counts q 0 ≡ get_or counts k 0 = ap (λ x. get_or counts x 0) (sym h) in
      omega (arith, push, so_far, one_more, set_to, was))
      (λ ne.
      let no_more = ap bit (ne_eqb k q ne) in
      let kept = get_or-set_other counts k q (get_or counts k 0 + 1) 0 (λ h. ne (sym h)) in
      omega (arith, push, so_far, no_more, kept))
      (cases_eq k q)

  pub order_more : IsOrder t js (set counts k (get_or counts k 0 + 1)) (steps ++ record { journal = k; entry = get_or counts k 0 } ∷ [])
  unfolding ordered
  order_more =
      let s : Step = record { journal = k; entry = get_or counts k 0 } in
      let w : WorldEvent = record { site = j.site; entry = e } in
      record {
        events = o.events ++ record { site = j.site; entry = e } ∷ [];
        are = map-append (event_at js) steps (s ∷ [])
            ∙ ap (λ l. l ++ event_at js s ∷ []) o.are
            ∙ ap (λ x. map Some o.events ++ x ∷ []) (event_here js k (get_or counts k 0) j e l here in_journal is)
            ∙ sym (map-append Some o.events (w ∷ []));
        in_turn = turn_more steps s o.in_turn (sym (o.counted k));
        run = run_more t js limits counts old new one are ordered k j l here e room is next moves;
        come = entries_more t js limits counts old new one are ordered k j l here e room is next moves;
        counted = counted_more;
      }

-- ---- where the order is to be kept

abbrev pub IsKept : Bool → Topology → List Journal → List ℕ → List Step → Type 0
IsKept keeps t js counts steps = MatchBool keeps (IsOrder t js counts steps) (steps ≡ [])

pub kept_start : (keeps : Bool) (t : Topology) (js : List Journal) → IsKept keeps t js (replicate (length js) 0) []
kept_start true t js = order_start t js
kept_start false t js = refl

pub kept_took : (keeps : Bool) (t : Topology) (js : List Journal) (counts longer : List ℕ) (steps next : List Step) (s : Step) → next ≡ (if keeps then steps ++ s ∷ [] else steps)
    → (IsOrder t js counts steps → IsOrder t js longer (steps ++ s ∷ [])) → IsKept keeps t js counts steps → IsKept keeps t js longer next
kept_took true t js counts longer steps next s is took kept = subst (IsOrder t js longer) (sym is) (took kept)
kept_took false t js counts longer steps next s is took kept = is ∙ kept

-- ---- all was taken

pub run_is : (t : Topology) (js : List Journal) (counts : List ℕ) (steps : List Step) → ((s : ℕ) → journal_of js s ≡ taken_of js counts s) → IsOrder t js counts steps → IsRunOf t js steps
run_is t js counts steps all o = record {
  events = o.events;
  are = o.are;
  in_turn = o.in_turn;
  run = o.run;
  come = λ s. o.come s ∙ sym (all s);
}
