-- A controller that steps through lawful entries, and what an entry records.
use Rattle.std.proofs.Common.{◌≡◌, ℕ, ◌+◌, ◌<◌, List, [], ◌∷◌, ◌++◌, length, take, drop, map, get_or, Option, None, Some, refl, sym, ap, ◌∙◌, subst, take-append-drop}
use Rattle.std.proofs.lemmas.List.{map-append}
use Rattle.cmh_runs.proofs.Beginnings.{push_eq}
use Rattle.cmh_runs.proofs.Journals.{lawful_rest}
use Rattle.cmh_model3.specs.declared.event.Event.{Event}
use Rattle.cmh_model3.specs.Entries as model
use Rattle.cmh_model3.specs.Journals.{LawfulFrom, rules_of, state_after}
use Rattle.cmh_model3.specs.Rules.{Sends}
use Rattle.cmh_model3.specs.State.{State, empty_state}
use Rattle.cmh_model3.specs.Stops.{declared_at}
use Rattle.cmh_topology3.specs.Topology.{Topology, site_of}
use Rattle.cmh_controller3.specs.Controller.{Controller, home_of, state_of}
use Rattle.cmh_controller3.specs.Steps.{Steps, process_in}
use Rattle.cmh_controller3.specs.declared.outcome.Declaration.{Declaration as Declared}
use Rattle.cmh_controller3.specs.declared.outcome.Outcome.{Outcome}
use Rattle.cmh_segment3.specs.declared.entry.Declaration.{Declaration}
use Rattle.cmh_segment3.specs.declared.entry.Entry.{Entry}
use Rattle.cmh_segment3.specs.Entries.{step_of}
use Rattle.cmh_segment3.specs.Steps.{entries_from, entry_at}
use Rattle.cmh_audit3.specs.Inner.Lawful.{AreLawful, recorded}
use Rattle.cmh_audit3.proofs.Lengths.{Going, entries-append, goes_on, lawful_beginning, records_it}
use Rattle.cmh_files3.specs.Reasons.{Makes, process_of}
use Rattle.cmh_files3.proofs.TurnLemmas.{take_next}

-- the process of what is recorded
pub recorded_process : (o : Option Declared) → process_in o ≡ process_of (recorded o)
recorded_process None = refl
recorded_process (Some d) = refl

pub recorded_stop : (o : Option Declared) (n : ℕ) → ((d : Declared) → o ≡ Some d → d.stop ≡ n) → (d : Declaration) → recorded o ≡ Some d → d.stamp ≡ n
recorded_stop None n stop d is = absurd (cc is)
recorded_stop (Some x) n stop d is = let same : x.stop ≡ d.stamp = cc is in sym same ∙ stop x refl

-- what a step comes to is what the rules make
pub made_by : (old new : Controller) (event : Event) (o : Outcome) → Steps old event o new → Makes old.topology old.site (state_of old) event o.sent (recorded o.declared)
made_by old new event o took = record {
  accepts = took.accepted;
  sends = subst (λ d. Sends (home_of old) old.site (state_of old) event o.sent d) (recorded_process o.declared) took.sends;
  stop = λ d is. recorded_stop o.declared (declared_at old.kept.clock event) took.stop d is;
}

module _ (t : Topology) (s : ℕ) (entries : List Entry) (i : ℕ) (e : Entry) (old : Controller) (h : i < length entries) (is : e ≡ get_or entries i e) (r : Going t s empty_state entries i old) (lawful : AreLawful t s entries) where
  abbrev front : List Entry
  front = take i entries

  abbrev steps : List model.Entry
  steps = map step_of front

  abbrev led : State
  led = state_after (site_of t) s empty_state steps

  with_it : AreLawful t s (front ++ e ∷ [])
  with_it =
      subst (λ es. AreLawful t s es) (take_next entries i e h is)
      (lawful_beginning t s empty_state (take (i + 1) entries) (drop (i + 1) entries) (subst (λ es. AreLawful t s es) (sym (take-append-drop (i + 1) entries)) lawful))

  more_steps : map step_of (front ++ e ∷ []) ≡ steps ++ step_of e ∷ []
  more_steps = map-append step_of front (e ∷ [])

  stamps : front ++ entry_at led.clock (step_of e) ∷ [] ≡ front ++ e ∷ []
  stamps =
      ap (λ l. l ++ entry_at led.clock (step_of e) ∷ []) (sym r.lawful.stamps) ∙ sym (entries-append (site_of t) s empty_state steps (step_of e ∷ []))
      ∙ ap (entries_from 0) (sym more_steps) ∙ with_it.stamps

  -- the controller takes the next entry as it is recorded
  pub steps_on : (new : Controller) (o : Outcome) → Steps old e.event o new → Going t s empty_state entries (i + 1) new
  steps_on new o took =
      let last = lawful_rest (rules_of (site_of t) s) empty_state steps (step_of e ∷ []) (subst (λ xs. LawfulFrom (site_of t) s empty_state xs) more_steps with_it.steps) in
      let same = records_it t s empty_state entries i e old h is r new o took last.0 last.1 (push_eq front front (entry_at led.clock (step_of e)) e stamps).1 in
      goes_on t s empty_state entries i e old h is r new o took same.0 same.1
