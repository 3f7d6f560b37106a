-- How a controller comes to stand where the events of a run lead.
use Rattle.std.proofs.Common.{◌≡◌, ◌≢◌, ℕ, ◌+◌, ◌<◌, List, [], ◌∷◌, ◌++◌, length, take, drop, get_or, append-nil, refl, sym, ap, ◌∙◌, subst}
use Rattle.std.proofs.lemmas.List.{take_more, take-append-drop}
use Rattle.cmh_runs.proofs.Journals.{entries_elsewhere, entries_here, entries_of-append, lawful_front, lawful_rest, state_after-append}
use Rattle.cmh_model3.proofs.Sent.{one_outcome}
use Rattle.cmh_model3.specs.Entries.{Entry, WorldEvent}
use Rattle.cmh_model3.specs.Rules.{Sends, after}
use Rattle.cmh_model3.specs.Journals.{rules_of, state_after}
use Rattle.cmh_model3.specs.Runs.{IsRun, entries_of}
use Rattle.cmh_model3.specs.State.{State, empty_state}
use Rattle.cmh_topology3.specs.Topology.{Topology, site_of}
use Rattle.cmh_controller3.specs.Controller.{Controller, IsNew, home_of, state_of}
use Rattle.cmh_controller3.specs.Replays.{IsLawful, StandsAfter}
use Rattle.cmh_controller3.specs.Steps.{Steps, process_in}
use Rattle.cmh_controller3.specs.declared.outcome.Outcome.{Outcome}

pub stands_new : (t : Topology) (s : ℕ) (events : List WorldEvent) (c : Controller) → IsNew t s c → StandsAfter t s (entries_of s (take 0 events)) c
stands_new t s events c new = record { topology = new.topology; site = new.site; state = new.state }

module _ (t : Topology) (s : ℕ) (events : List WorldEvent) (i : ℕ) (e : WorldEvent) (h : i < length events) (is : e ≡ get_or events i e) where
  abbrev pub front : List WorldEvent
  front = take i events

  pub more : take (i + 1) events ≡ front ++ e ∷ []
  more = take_more events i e h ∙ ap (λ y. front ++ y ∷ []) (sym is)

  -- an event of another site
  pub stands_still : (c : Controller) → e.site ≢ s → StandsAfter t s (entries_of s front) c → StandsAfter t s (entries_of s (take (i + 1) events)) c
  stands_still c far stands =
      subst (λ (es : List Entry). StandsAfter t s es c)
      (sym (ap (entries_of s) more ∙ entries_of-append s front (e ∷ []) ∙ ap (λ z. entries_of s front ++ z) (entries_elsewhere s e [] far) ∙ append-nil (entries_of s front)))
      stands

  module _ (run : IsRun (site_of t) events) (here : e.site ≡ s) (old : Controller) (stands : StandsAfter t s (entries_of s front) old) where
    abbrev pub led : State
    led = state_after (site_of t) s empty_state (entries_of s front)

    pub there : (P : (ℕ → ℕ) → ℕ → State → Type 0) → P (home_of old) old.site (state_of old) → P (site_of t) s led
    there P p =
        subst (λ v. P (site_of t) s v) stands.state
        (subst (λ x. P (site_of t) x (state_of old)) stands.site
        (subst (λ (u : Topology). P (site_of u) old.site (state_of old)) stands.topology p))

    pub entries_so_far : entries_of s (take (i + 1) events) ≡ entries_of s front ++ e.entry ∷ []
    entries_so_far = ap (entries_of s) more ∙ entries_of-append s front (e ∷ []) ∙ ap (λ z. entries_of s front ++ z) (entries_here s e [] here)

    -- the entries up to this one are lawful
    lawful : IsLawful t s (entries_of s front ++ e.entry ∷ [])
    lawful =
        lawful_front (rules_of (site_of t) s) empty_state (entries_of s front ++ e.entry ∷ []) (entries_of s (drop (i + 1) events))
        (subst (λ (es : List Entry). IsLawful t s es)
        (ap (entries_of s) (sym (take-append-drop (i + 1) events)) ∙ entries_of-append s (take (i + 1) events) (drop (i + 1) events)
        ∙ ap (λ z. z ++ entries_of s (drop (i + 1) events)) entries_so_far)
        (run.lawful s))

    -- an event of this site, which the controller takes: what comes of it is what the entry records
    pub records_it : (new : Controller) (o : Outcome) → Steps old e.entry.event o new → (e.entry.sent ≡ o.sent) × (e.entry.declared ≡ process_in o.declared)
    records_it new o steps =
        let last = lawful_rest (rules_of (site_of t) s) empty_state (entries_of s front) (e.entry ∷ []) lawful in
        let sends = there (λ home x v. Sends home x v e.entry.event o.sent (process_in o.declared)) steps.sends in
        one_outcome (site_of t) s led e.entry.event e.entry.sent o.sent e.entry.declared (process_in o.declared) last.1 sends

    -- and the controller stands where it leads
    pub stands_on : (new : Controller) (o : Outcome) → Steps old e.entry.event o new → StandsAfter t s (entries_of s (take (i + 1) events)) new
    stands_on new o steps =
        let same = records_it new o steps in
        record {
          topology = steps.topology ∙ stands.topology;
          site = steps.site ∙ stands.site;
          state =
              steps.state
              ∙ there (λ home x v. after (home_of old) old.site (state_of old) e.entry.event (process_in o.declared) ≡ after home x v e.entry.event (process_in o.declared)) refl
              ∙ ap (after (site_of t) s led e.entry.event) (sym same.1)
              ∙ sym (state_after-append (rules_of (site_of t) s) empty_state (entries_of s front) (e.entry ∷ []))
              ∙ ap (state_after (site_of t) s empty_state) (sym entries_so_far);
        }
