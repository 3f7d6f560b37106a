-- What controllers that stand after the events of a run tell of their processes.
use Rattle.std.proofs.Common.{◌≡◌, ◌↔◌, ℕ, ◌==◌, Bool, true, false, List, [], ◌∷◌, map, refl, sym, ap, subst, ◌∙◌, inl, inr, true≢false, if◌then◌else◌}
use Rattle.std.specs.List.{list_any, AllByRecursion}
use Rattle.std.proofs.lemmas.Bool.{cases_Bool, eq-eqb, eqb-true, or_cases, or_left, or_right}
use Rattle.cmh_controller3.specs.Controller as control
use Rattle.cmh_model3.specs.Entries.{Entry, WorldEvent}
use Rattle.cmh_model3.specs.Laws.{JournalFacts}
use Rattle.cmh_model3.specs.Lists.{in_list, is_nonempty}
use Rattle.cmh_model3.specs.Journals.{state_after}
use Rattle.cmh_model3.specs.Runs.{IsRun, entries_of, state_of}
use Rattle.cmh_model3.specs.State.{State, empty_state, is_blocked}
use Rattle.cmh_model3.proofs.Facts.{lawful_states}
use Rattle.cmh_topology3.specs.Topology.{Topology, is_site, site_of}
use Rattle.cmh_report3.specs.Inner.Own.{LeavesOwn}
use Rattle.cmh_report3.specs.Reports.{StandEach}

some_member : (ks : List ℕ) → is_nonempty ks ≡ true → (k : ℕ) × (in_list ks k ≡ true)
some_member [] h = absurd (true≢false (sym h))
some_member (k ∷ ks) h = (k, or_left (k == k) (in_list ks k) (eq-eqb k k refl))

module _ (t : Topology) (events : List WorldEvent) (run : IsRun (site_of t) events) where
  facts : (s : ℕ) → JournalFacts (site_of t) s (state_of (site_of t) s events)
  facts s = lawful_states (site_of t) s (entries_of s events) (run.lawful s)

  -- a site of no topology has no entries
  no_entries : (s : ℕ) (es : List WorldEvent) → AllByRecursion (λ (e : WorldEvent). is_site t e.site ≡ true) es → is_site t s ≡ false → entries_of s es ≡ []
  no_entries s [] all none = refl
  no_entries s (e ∷ es) all none = elim (cases_Bool (e.site == s)) [
    | inl same ↦ absurd (true≢false (sym (subst (λ q. is_site t q ≡ true) (eqb-true e.site s same) all.0) ∙ none))
    | inr other ↦ ap (λ b. if b then e.entry ∷ entries_of s es else entries_of s es) other ∙ no_entries s es all.1 none
  ]

  -- what holds of a process in the state of its site alone, and not at first
  module _ (F : State → Bool) (p : ℕ) (own : (s : ℕ) (v : State) → JournalFacts (site_of t) s v → F v ≡ true → site_of t p ≡ s) (first : F empty_state ≡ false) where
    abbrev tells : control.Controller → Bool
    tells c = F (control.state_of c)

    told_to : (cs : List control.Controller) → AllByRecursion (λ (c : control.Controller). control.state_of c ≡ state_of (site_of t) c.site events) cs
        → list_any (λ (c : control.Controller). F (control.state_of c)) cs ≡ true → F (state_of (site_of t) (site_of t p) events) ≡ true
    told_to [] all h = absurd (true≢false (sym h))
    told_to (c ∷ cs) all h = elim (or_cases (F (control.state_of c)) (list_any (λ (d : control.Controller). F (control.state_of d)) cs) h) [
      | inl here ↦
          let at : F (state_of (site_of t) c.site events) ≡ true = sym (ap F all.0) ∙ here in
          subst (λ s. F (state_of (site_of t) s events) ≡ true) (sym (own c.site (state_of (site_of t) c.site events) (facts c.site) at)) at
      | inr later ↦ told_to cs all.1 later
    ]

    told_by : (cs : List control.Controller) → AllByRecursion (λ (c : control.Controller). control.state_of c ≡ state_of (site_of t) c.site events) cs
        → F (state_of (site_of t) (site_of t p) events) ≡ true → list_any (λ q. q == site_of t p) (map (λ (c : control.Controller). c.site) cs) ≡ true
        → list_any (λ (c : control.Controller). F (control.state_of c)) cs ≡ true
    told_by [] all h found = absurd (true≢false (sym found))
    told_by (c ∷ cs) all h found =
        elim (or_cases (c.site == site_of t p) (list_any (λ q. q == site_of t p) (map (λ (d : control.Controller). d.site) cs)) found) [
          | inl here ↦
              or_left (F (control.state_of c)) (list_any (λ (d : control.Controller). F (control.state_of d)) cs)
              (ap F all.0 ∙ ap (λ s. F (state_of (site_of t) s events)) (eqb-true c.site (site_of t p) here) ∙ h)
          | inr later ↦ or_right (F (control.state_of c)) (list_any (λ (d : control.Controller). F (control.state_of d)) cs) (told_by cs all.1 h later)
        ]

    pub told : (cs : List control.Controller) → StandEach t events cs
        → (list_any (λ (c : control.Controller). F (control.state_of c)) cs ≡ true) ↔ (F (state_of (site_of t) (site_of t p) events) ≡ true)
    told cs stand = (
      told_to cs stand.states,
      λ h. elim (cases_Bool (is_site t (site_of t p))) [
        | inl known ↦ told_by cs stand.states h (stand.sites (site_of t p) ∙ known)
        | inr unknown ↦
            absurd (true≢false (sym h ∙ ap (λ (es : List Entry). F (state_after (site_of t) (site_of t p) empty_state es)) (no_entries (site_of t p) events stand.of_world unknown) ∙ first))
      ],
    )

  leaving_own : (j k : ℕ) (s : ℕ) (v : State) → JournalFacts (site_of t) s v → v.leaving j k ≡ true → site_of t j ≡ s
  leaving_own j k s v f h = (f.leaving_away j k h).0

  declared_own : (p : ℕ) (s : ℕ) (v : State) → JournalFacts (site_of t) s v → v.declared p ≡ true → site_of t p ≡ s
  declared_own p s v f h = elim (cases_Bool (is_blocked v p)) [
    | inl blocked ↦ let some = some_member (v.waits p) blocked in (f.waits_home p some.0 some.1).0
    | inr active ↦ absurd (true≢false (sym h ∙ f.undeclared p active))
  ]

  module _ (cs : List control.Controller) (stand : StandEach t events cs) where
    pub leaving_told : (j k : ℕ) → (list_any (λ (c : control.Controller). (control.state_of c).leaving j k) cs ≡ true)
        ↔ ((state_of (site_of t) (site_of t j) events).leaving j k ≡ true)
    leaving_told j k = told (λ v. v.leaving j k) j (leaving_own j k) refl cs stand

    pub declared_told : (p : ℕ) → (list_any (λ (c : control.Controller). (control.state_of c).declared p) cs ≡ true)
        ↔ ((state_of (site_of t) (site_of t p) events).declared p ≡ true)
    declared_told p = told (λ v. v.declared p) p (declared_own p) refl cs stand

    pub leave_own : AllByRecursion LeavesOwn cs
    leave_own = go cs stand.topologies stand.states
      where
        go : (ds : List control.Controller) → AllByRecursion (λ (c : control.Controller). c.topology ≡ t) ds
            → AllByRecursion (λ (c : control.Controller). control.state_of c ≡ state_of (site_of t) c.site events) ds → AllByRecursion LeavesOwn ds
        go [] tops all = tt
        go (c ∷ ds) tops all = (
          λ j k h.
              ap (λ u. site_of u j) tops.0
              ∙ leaving_own j k c.site (state_of (site_of t) c.site events) (facts c.site) (sym (ap (λ (v : State). v.leaving j k) all.0) ∙ h),
          go ds tops.1 all.1,
        )
