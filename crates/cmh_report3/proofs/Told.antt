-- What a report on a run tells of those that are declared.
use Rattle.std.proofs.Common.{◌≡◌, ◌≢◌, ℕ, suc, ◌<◌, true, List, [], ◌∷◌, length, map, Contains, None, Some, refl, sym, subst, inl, inr, arith}
use Rattle.std.specs.List.{AllByRecursion}
use Rattle.cmh_frames.specs.Paths as frames
use Rattle.cmh_model3.specs.Entries.{WorldEvent}
use Rattle.cmh_model3.specs.Laws.{stop_of}
use Rattle.cmh_model3.specs.Paths.{IsPath}
use Rattle.cmh_model3.specs.Runs.{IsDeclared, IsRun}
use Rattle.cmh_model3.specs.Stops.{stop, withdrawn_past}
use Rattle.cmh_model3.specs.Waits.{IsNext, OnCycle, Waits}
use Rattle.cmh_model3.proofs.Runs.{no_phantom}
use Rattle.cmh_report3.specs.declared.cycle.CycleNow.{CycleNow}
use Rattle.cmh_report3.specs.declared.cycle.CycleNow.TheVariants as cycle
use Rattle.cmh_report3.specs.declared.cycle.Deadlock.{Deadlock}
use Rattle.cmh_report3.specs.Endings.{StandsSince}
use Rattle.cmh_report3.specs.Laws.{Declares, DeclaresLast, EachLayOnCycle, EachWasDeclaredThere, EachWasLeftByMember, NamesLeaver, OfEachDeclared}
use Rattle.cmh_report3.specs.Reports.{BecameOf, IsTold, Leaves, NoCycleOf}
use Rattle.cmh_report3.proofs.Ended.{cycles_stand_or_are_left}
use Rattle.cmh_report3.proofs.Newest.{newest_is_last}

-- ---- paths by the words of the frames, and by those of the model

path_of_frames : (R : ℕ → ℕ → Type 0) (p : ℕ) (members : List ℕ) (q : ℕ) → frames.IsPath R p members q → IsPath R p members q
path_of_frames R p [] q h = h
path_of_frames R p (x ∷ xs) q h = (h.0, path_of_frames R x xs q h.1)

path_to_frames : (R : ℕ → ℕ → Type 0) (p : ℕ) (members : List ℕ) (q : ℕ) → IsPath R p members q → frames.IsPath R p members q
path_to_frames R p [] q h = h
path_to_frames R p (x ∷ xs) q h = (h.0, path_to_frames R x xs q h.1)

-- ---- each declared process

module _ (home : ℕ → ℕ) (events : List WorldEvent) (run : IsRun home events) where
  -- the stop that is told
  last_told : (d : Deadlock) → IsDeclared home events d.process → IsTold events d → DeclaresLast home events d.process d.stop
  last_told d declared told = subst (DeclaresLast home events d.process) (sym told.stop_is) (newest_is_last home events d.process declared)

  its_entry : (i n : ℕ) → DeclaresLast home events i n → Declares home events i n
  its_entry i n last = record {
    before = last.before;
    entry = last.entry;
    behind = last.behind;
    events_are = last.events_are;
    declares = last.declares;
    stop_is = last.stop_is;
  }

  pub on_cycle : (i n : ℕ) → Declares home events i n → OnCycle (stop n events) i
  on_cycle i n last =
      let there = (no_phantom home last.before last.entry last.behind (subst (IsRun home) last.events_are run) i last.declares).0 in
      subst (λ m. OnCycle (stop m events) i) (sym last.stop_is) (subst (λ es. OnCycle (stop (stop_of home last.before last.entry) es) i) (sym last.events_are) there)

  pub has_cycle : (i n : ℕ) (now : CycleNow) → OnCycle (stop n events) i
      → BecameOf (Waits (stop n events)) (StandsSince n events) (λ j k. withdrawn_past n j k (λ s. 0) events ≡ true) i now → now ≢ cycle.None
  has_cycle i n now on became is =
      let none : NoCycleOf (Waits (stop n events)) i = subst (BecameOf (Waits (stop n events)) (StandsSince n events) (λ j k. withdrawn_past n j k (λ s. 0) events ≡ true) i) is became in
      none (i ∷ on.0 ∷ on.1) (refl, path_to_frames (Waits (stop n events)) i (on.0 ∷ on.1) i on.2)

  pub leaver_of : (i n : ℕ) (now : CycleNow)
      → BecameOf (Waits (stop n events)) (StandsSince n events) (λ j k. withdrawn_past n j k (λ s. 0) events ≡ true) i now → NamesLeaver events n now
  leaver_of i n (cycle.Stands members) became = tt
  leaver_of i n cycle.None became = tt
  leaver_of i n (cycle.Left members (Some by)) became = (by, refl, became.2.0)
  leaver_of i n (cycle.Left members None) became = absurd (nobody members.items became.1.cycle became.2)
    where
      nobody : (ms : List ℕ) → frames.IsCycleOf (Waits (stop n events)) i ms → ((j : ℕ) → Leaves (λ j k. withdrawn_past n j k (λ s. 0) events ≡ true) ms j → ⊥) → ⊥
      nobody [] h none = h
      nobody (x ∷ []) h none = h
      nobody (x ∷ y ∷ ms) h none =
          let same : x ≡ i = h.0 in
          let path : IsPath (Waits (stop n events)) i (y ∷ ms) i = subst (λ q. IsPath (Waits (stop n events)) q (y ∷ ms) i) same (path_of_frames (Waits (stop n events)) x (y ∷ ms) i h.1) in
          elim (cycles_stand_or_are_left home events run n i y ms path) [
            | inl stands ↦ became.0 (i ∷ y ∷ ms) (refl, path_to_frames (StandsSince n events) i (y ∷ ms) i stands)
            | inr left ↦ none left.0 (left.1, subst (λ q. IsNext q (y ∷ ms) left.0 left.1) (sym same) left.2, left.3)
          ]

-- what holds of each that is told of, once it is declared
each_told : (Holds : (ℕ → ℕ) → List WorldEvent → Deadlock → Type 0)
    → ((home : ℕ → ℕ) (events : List WorldEvent) → IsRun home events → (d : Deadlock) → IsDeclared home events d.process → IsTold events d → Holds home events d)
    → OfEachDeclared Holds
each_told Holds holds home events report run reports = go report.declared.items reports.told (λ i. (reports.declared i).0)
  where
    later : (p : ℕ) (ps : List ℕ) (i : ℕ) → Contains ps i → Contains (p ∷ ps) i
    later p ps i c = (suc c.0, (let h : c.0 < length ps = c.1 in omega arith), c.2)

    go : (ds : List Deadlock) → AllByRecursion (IsTold events) ds → ((i : ℕ) → Contains (map (λ (d : Deadlock). d.process) ds) i → IsDeclared home events i)
        → AllByRecursion (Holds home events) ds
    go [] all declared = tt
    go (d ∷ ds) all declared = (
      holds home events run d (declared d.process (0, omega arith, refl)) all.0,
      go ds all.1 (λ i c. declared i (later d.process (map (λ (e : Deadlock). e.process) ds) i c)),
    )

pub each_was_declared_there : EachWasDeclaredThere
each_was_declared_there = each_told (λ home events told. DeclaresLast home events told.process told.stop) last_told

pub each_lay_on_cycle : EachLayOnCycle
each_lay_on_cycle =
    each_told (λ home events told. OnCycle (stop told.stop events) told.process × (told.cycle ≢ cycle.None))
    (λ home events run d declared told.
    let on = on_cycle home events run d.process d.stop (its_entry home events run d.process d.stop (last_told home events run d declared told)) in
    (on, has_cycle home events run d.process d.stop d.cycle on told.cycle_is))

pub each_was_left_by_member : EachWasLeftByMember
each_was_left_by_member =
    each_told (λ home events told. NamesLeaver events told.stop told.cycle)
    (λ home events run d declared told. leaver_of home events run d.process d.stop d.cycle told.cycle_is)
