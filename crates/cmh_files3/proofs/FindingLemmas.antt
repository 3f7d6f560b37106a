-- From the verdict on segments to what is found, and to more lines of it.
use Rattle.std.proofs.Common.{◌≡◌, ℕ, ◌==◌, Bool, true, false, true≢false, List, [], ◌∷◌, Vec, map, refl, sym, ap, subst, ◌∙◌, inl, inr}
use Rattle.std.specs.Prelude.{◌↔◌, IfErr, IfOk}
use Rattle.std.specs.Global.{Global}
use Rattle.std.specs.List.{AllByRecursion, list_any}
use Rattle.std.proofs.lemmas.Bool.{cases_eq}
use Rattle.cmh_runs.proofs.Journals.{entries_elsewhere, entries_here}
use Rattle.cmh_model3.specs.Entries.{Entry, WorldEvent}
use Rattle.cmh_model3.specs.Journals.{state_after}
use Rattle.cmh_model3.specs.Runs as runs
use Rattle.cmh_model3.specs.Runs.{IsRun, entries_of}
use Rattle.cmh_model3.specs.State.{empty_state}
use Rattle.cmh_topology3.specs.Topology.{Topology, is_site, site_of}
use Rattle.cmh_controller3.specs.Controller.{Controller, state_of}
use Rattle.cmh_segment3.specs.declared.segment.Segment.{Segment}
use Rattle.cmh_segment3.specs.Entries.{step_of}
use Rattle.cmh_segment3.specs.Steps.{entries_from}
use Rattle.cmh_segment3.proofs.WholeEntries.{steps_come_back}
use Rattle.cmh_audit3.specs.Journals.{AreJournalsOf, ComeFromRun, journal_of}
use Rattle.cmh_audit3.specs.Set.{IsSet, has_site, sites_in}
use Rattle.cmh_audit3.specs.Stops.{AreStops}
use Rattle.cmh_audit3.specs.Verdicts.{ControllersStand, IsAccepted, IsOrderOf, StandAtEnds, as_result}
use Rattle.cmh_audit3.specs.declared.stops.Stop.{Stop}
use Rattle.cmh_audit3.specs.declared.verdict.Verdict.{Verdict}
use Rattle.cmh_audit3.specs.declared.verdict.Verdict.TheVariants.{Accepted, Refused}
use Rattle.cmh_audit3.proofs.Ends.{each_journal}
use Rattle.cmh_audit3.proofs.Sets.{same_sites, set_parts}
use Rattle.cmh_audit3.proofs.Surveys.{none_there}
use Rattle.cmh_report3.specs.Reports.{StandEach}
use Rattle.cmh_files3.specs.Inner.Runs.{IsMoreOfEvents, IsMoreOfOrder}
use Rattle.cmh_files3.specs.More.{IsMoreOfRun}
use Rattle.cmh_files3.specs.RunLines.{AreRunLines}
use Rattle.cmh_files3.specs.declared.more.More.{More}
use Rattle.cmh_files3.specs.declared.more.More.TheVariants.{Nothing, Reasons, Run, Declarations}

-- ---- the sites of events

no_cons : {X : Type 0} (x : X) (xs : List X) → x ∷ xs ≡ [] → ⊥
no_cons x xs h = cc

-- who has no entries took no steps
no_steps : (c : ℕ) (steps : List Entry) → entries_from c steps ≡ [] → steps ≡ []
no_steps c [] none = refl
no_steps c (step ∷ steps) none = absurd (no_cons _ _ none)

module _ (t : Topology) (gs : List Segment) (known : (s : ℕ) → has_site (sites_in gs) s ≡ true → is_site t s ≡ true) where
  each_known : (events : List WorldEvent) → ((s : ℕ) → has_site (sites_in gs) s ≡ false → entries_of s events ≡ []) → AllByRecursion (λ (e : WorldEvent). is_site t e.site ≡ true) events
  each_known [] none = tt
  each_known (e ∷ events) none = (here (has_site (sites_in gs) e.site) refl, each_known events later)
    where
      here : (b : Bool) → has_site (sites_in gs) e.site ≡ b → is_site t e.site ≡ true
      here true there = known e.site there
      here false far = absurd (no_cons e.entry (entries_of e.site events) (sym (entries_here e.site e events refl) ∙ none e.site far))

      later : (s : ℕ) → has_site (sites_in gs) s ≡ false → entries_of s events ≡ []
      later s far = elim (cases_eq e.site s) [
        | inl same ↦ absurd (no_cons e.entry (entries_of s events) (sym (entries_here s e events same) ∙ none s far))
        | inr other ↦ sym (entries_elsewhere s e events other) ∙ none s far
      ]

-- each event from which the journals of a set come is of a site of the world
pub of_world : (t : Topology) (gs : List Segment) (events : List WorldEvent) → IsSet t gs → AreJournalsOf events (journal_of gs)
    → AllByRecursion (λ (e : WorldEvent). is_site t e.site ≡ true) events
of_world t gs events set journals =
    each_known t gs (set_parts t gs set).known events (λ s far. no_steps 0 (entries_of s events) (journals s ∙ none_there gs s far))

-- ---- the controllers of an audit

stand_sites : (t : Topology) (gs : List Segment) (cs : List Controller) → StandAtEnds t gs cs → map (λ (c : Controller). c.site) cs ≡ sites_in gs
stand_sites t [] [] all = refl
stand_sites t [] (c ∷ cs) all = absurd all
stand_sites t (g ∷ gs) [] all = absurd all
stand_sites t (g ∷ gs) (c ∷ cs) all =
    ap (λ (x : ℕ). x ∷ map (λ (k : Controller). k.site) cs) all.0.site ∙ ap (λ (l : List ℕ). g.header.site ∷ l) (stand_sites t gs cs all.1)

stand_topologies : (t : Topology) (gs : List Segment) (cs : List Controller) → StandAtEnds t gs cs → AllByRecursion (λ (c : Controller). c.topology ≡ t) cs
stand_topologies t [] [] all = tt
stand_topologies t [] (c ∷ cs) all = absurd all
stand_topologies t (g ∷ gs) [] all = absurd all
stand_topologies t (g ∷ gs) (c ∷ cs) all = (all.0.topology, stand_topologies t gs cs all.1)

stand_states : (t : Topology) (events : List WorldEvent) (gs : List Segment) (cs : List Controller) → AllByRecursion (λ (g : Segment). map step_of g.entries ≡ entries_of g.header.site events) gs
    → StandAtEnds t gs cs → AllByRecursion (λ (c : Controller). state_of c ≡ runs.state_of (site_of t) c.site events) cs
stand_states t events [] [] own all = tt
stand_states t events [] (c ∷ cs) own all = absurd all
stand_states t events (g ∷ gs) [] own all = absurd all
stand_states t events (g ∷ gs) (c ∷ cs) own all = (
  subst (λ (x : ℕ). state_of c ≡ runs.state_of (site_of t) x events) (sym all.0.site)
      (all.0.state ∙ ap (λ (es : List Entry). state_after (site_of t) g.header.site empty_state es) own.0),
  stand_states t events gs cs own.1 all.1,
)

-- they stand where each run leads from which the segments come, so a report on it can be made
pub stand_each : (t : Topology) (gs : List Segment) (events : List WorldEvent) (cs : List Controller) → IsSet t gs → AreJournalsOf events (journal_of gs) → StandAtEnds t gs cs → StandEach t events cs
stand_each t gs events cs set journals all =
    let own = each_journal (λ s es. map step_of es ≡ entries_of s events) gs (set_parts t gs set).once (λ s _. ap (map step_of) (sym (journals s)) ∙ steps_come_back 0 (entries_of s events)) in
    record {
      sites = λ s. ap (list_any (λ q. q == s)) (stand_sites t gs cs all) ∙ same_sites t gs set s;
      topologies = stand_topologies t gs cs all;
      states = stand_states t events gs cs own all;
      of_world = of_world t gs events set journals;
    }

-- ---- the verdict

-- the order and the controllers of a verdict that accepts
pub order_of : (t : Topology) (gs : List Segment) (v : Verdict) (order : List ℕ) (controllers : Vec Controller Global) → v ≡ Accepted order controllers → IfOk (as_result v) (IsOrderOf t gs) → IsOrderOf t gs order
order_of t gs v order controllers is ordered = subst (λ (w : Verdict). IfOk (as_result w) (IsOrderOf t gs)) is ordered

pub controllers_of : (t : Topology) (gs : List Segment) (v : Verdict) (order : List ℕ) (controllers : Vec Controller Global) → v ≡ Accepted order controllers → ControllersStand t gs v → StandAtEnds t gs controllers.items
controllers_of t gs v order controllers is stand = subst (λ (w : Verdict). ControllersStand t gs w) is stand

-- the stops of one that refuses, and that there is no run
pub refused_on : (t : Topology) (gs : List Segment) (v : Verdict) (stops : List Stop) → v ≡ Refused stops → (IsAccepted v ↔ ComeFromRun t (journal_of gs))
    → IfErr (as_result v) (AreStops t gs) → (¬ ComeFromRun t (journal_of gs)) × AreStops t gs stops
refused_on t gs v stops is accepted are =
    let verdict = subst (λ (w : Verdict). IsAccepted w ↔ ComeFromRun t (journal_of gs)) is accepted in
    ((λ come. true≢false (sym (verdict.1 come))), subst (λ (w : Verdict). IfErr (as_result w) (AreStops t gs)) is are)

-- ---- more lines

-- those of a run are what was listed of its order, or its declarations
pub more_of_run : (more : More) (t : Topology) (gs : List Segment) (events : List WorldEvent) → IsRun (site_of t) events → AreJournalsOf events (journal_of gs)
    → (listed text : List ℕ) → IsMoreOfOrder more t gs listed → IsMoreOfEvents more events listed text → IsMoreOfRun more t gs text
more_of_run Nothing t gs events run journals listed text first last = last ∙ first
more_of_run Reasons t gs events run journals listed text first last = last ∙ first
more_of_run Run t gs events run journals listed text first last = subst (AreRunLines t gs) (sym last) first
more_of_run Declarations t gs events run journals listed text first last =
    record { events = events; run = run; journals = journals; lines = last }
