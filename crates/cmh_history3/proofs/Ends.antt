-- From a judgement to the verdict on an epoch.
use Rattle.std.proofs.Common.{◌≡◌, ℕ, ◌<◌, List, [], length, map, sym, ap, ◌∙◌, subst}
use Rattle.cmh_epochs3.specs.Laws.{IsRunFrom}
use Rattle.cmh_controller3.specs.Controller.{Controller}
use Rattle.cmh_model3.specs.Entries.{WorldEvent}
use Rattle.cmh_model3.specs.State.{State}
use Rattle.cmh_model3.specs.Journals.{state_after}
use Rattle.cmh_model3.specs.Runs.{entries_of}
use Rattle.cmh_model3.specs.declared.frame.Message.{Message}
use Rattle.cmh_topology3.specs.Topology.{Topology, site_of, sites_of}
use Rattle.cmh_segment3.specs.declared.segment.Segment.{Segment}
use Rattle.cmh_segment3.specs.Entries.{step_of}
use Rattle.cmh_segment3.proofs.WholeEntries.{steps_come_back}
use Rattle.cmh_audit3.specs.declared.judgement.Judged.{Judged}
use Rattle.cmh_audit3.specs.Journals.{journal_of}
use Rattle.cmh_audit3.specs.Judged.{AreInOrder, IsJudgement}
use Rattle.cmh_audit3.specs.Standing.{StandIn}
use Rattle.cmh_audit3.specs.Stops.{before_stop}
use Rattle.cmh_audit3.proofs.Merged.{stops_refuse}
use Rattle.cmh_audit3.proofs.Sets.{world_parts}
use Rattle.cmh_history3.specs.Between.{between}
use Rattle.cmh_history3.specs.EpochSet.{IsEpochSet}
use Rattle.cmh_history3.specs.Verdicts.{AreStops, IsEnd}
use Rattle.cmh_history3.specs.Worlds.{ComeFromRun, StandAtBases, state_at, world_of}
use Rattle.cmh_history3.proofs.Standing.{stand_in}

-- a judgement from where the controllers stand is one from the bases
pub from_bases : (t : Topology) (gs : List Segment) (cs : List Controller) (sites : List ℕ) (first : ℕ → ℕ → List Message) (judged : Judged) → IsEpochSet t gs → StandAtBases t gs cs → sites ≡ sites_of t
    → ((a b : ℕ) → first a b ≡ between sites gs a b) → ((states : ℕ → State) → StandIn t states gs cs → IsJudgement t states first gs judged) → IsJudgement t (state_at gs) (between (sites_of t) gs) gs judged
from_bases t gs cs sites first judged set stand are same judgement =
    subst (λ f. IsJudgement t (state_at gs) f gs judged) (λ i a b. (same a b ∙ (λ j. between (are j) gs a b)) i)
    (judgement (state_at gs) (stand_in t gs cs (world_parts t gs set.of_world).once stand))

run_from : (t : Topology) (gs : List Segment) (events : List WorldEvent) → AreInOrder t (state_at gs) (between (sites_of t) gs) events → IsRunFrom (site_of t) (world_of t gs) events
run_from t gs events run = record { lawful = run.lawful; in_order = run.in_order }

in_order : (t : Topology) (gs : List Segment) (events : List WorldEvent) → IsRunFrom (site_of t) (world_of t gs) events → AreInOrder t (state_at gs) (between (sites_of t) gs) events
in_order t gs events run = record { lawful = run.lawful; in_order = run.in_order }

module _ (t : Topology) (gs : List Segment) (judged : Judged) (are : IsJudgement t (state_at gs) (between (sites_of t) gs) gs judged) where
  pub end_is : judged.stops ≡ [] → IsEnd t gs judged.order judged.controllers.items judged.queues
  end_is none =
      let kept : (s : ℕ) → _ = λ s. are.kept s ∙ ap (λ rows. before_stop rows s (journal_of gs s)) none in
      record {
        events = are.events;
        in_turn = are.in_turn;
        run = run_from t gs are.events are.run;
        kept = kept;
        leads = record {
          states = λ s. ap (λ es. state_after (site_of t) s (state_at gs s) es) (ap (map step_of) (sym (kept s)) ∙ steps_come_back (state_at gs s).clock (entries_of s are.events));
          under_way = are.under_way;
        };
        stand = are.stand none;
      }

  pub stops_are : 0 < length judged.stops → AreStops t gs judged.stops
  stops_are some = record {
    some = some;
    ascending = are.ascending;
    each = are.each;
    comes = record { events = are.events; run = run_from t gs are.events are.run; kept = are.kept };
    most = λ others run begin. are.most others (in_order t gs others run) begin;
  }

  pub no_run : 0 < length judged.stops → ComeFromRun t gs → ⊥
  no_run some come = stops_refuse t (state_at gs) (between (sites_of t) gs) gs judged are some come.events (in_order t gs come.events come.run) come.kept
