-- What the merge and the stops come to, and the verdict.
use Rattle.std.proofs.Common.{◌≡◌, ℕ, ◌<◌, ◌==◌, not, Bool, true, false, List, [], length, sym, ap, ◌∙◌, subst, inl, inr, arith}
use Rattle.std.specs.List.{list_any}
use Rattle.std.specs.List.Sorted.{IsStrictlyIncreasing}
use Rattle.std.proofs.lemmas.Bool.{cases_eq, eq-eqb, eqb-true, true≢false}
use Rattle.std.proofs.lemmas.List.{length-map}
use Rattle.cmh_frames.specs.Rows.{repeats}
use Rattle.cmh_merge.specs.Merges.{IsMergeFrom, LeavesUnderWay}
use Rattle.cmh_merge.specs.Queues.{waiting}
use Rattle.cmh_merge.specs.Walks.{sites_of}
use Rattle.cmh_merge.specs.declared.walk.SiteWalk.{SiteWalk}
use Rattle.cmh_model3.specs.Journals.{message_from}
use Rattle.cmh_model3.specs.State.{State, empty_state}
use Rattle.cmh_model3.specs.declared.frame.Message.{Message}
use Rattle.cmh_topology3.specs.Topology as topology
use Rattle.cmh_topology3.specs.Topology.{Topology}
use Rattle.cmh_segment3.specs.declared.entry.Entry.{Entry}
use Rattle.cmh_segment3.specs.declared.segment.Segment.{Segment}
use Rattle.cmh_audit3.specs.declared.judgement.Judged.{Judged}
use Rattle.cmh_audit3.specs.Journals.{ComeFromRun, journal_of}
use Rattle.cmh_audit3.specs.Judged.{IsJudgement}
use Rattle.cmh_audit3.specs.Set.{is_known, sites_in}
use Rattle.cmh_audit3.specs.Stops.{AreStops, before_stop}
use Rattle.cmh_audit3.specs.Verdicts.{IsOrderOf}
use Rattle.cmh_audit3.specs.Inner.Survey.{IsSurvey, steps_within, stop_at, stops_at}
use Rattle.cmh_audit3.proofs.Merged.{judgement, stops_refuse}
use Rattle.cmh_audit3.proofs.Places.{lefts_in}
use Rattle.cmh_audit3.proofs.Sets.{known_in}

pub same_length : (gs : List Segment) (walks : List (SiteWalk (List Entry))) → sites_of walks ≡ sites_in gs → length walks ≡ length gs
same_length gs walks same = sym (length-map walks (λ (w : SiteWalk (List Entry)). w.site)) ∙ ap length same ∙ length-map gs (λ (g : Segment). g.header.site)

-- ---- the judgement

pub judged_is :
    (t : Topology) (states : ℕ → State) (first : ℕ → ℕ → List Message) (gs : List Segment) (ns : List ℕ) (walks merged : List (SiteWalk (List Entry))) (order : List ℕ) (judged : Judged) → sites_of walks ≡ sites_in gs
    → lefts_in walks ≡ steps_within gs ns → IsMergeFrom message_from first (sites_of walks) (lefts_in walks) (lefts_in merged) order
    → LeavesUnderWay message_from first (sites_of walks) (lefts_in walks) (lefts_in merged) (waiting judged.queues) → IsStrictlyIncreasing (topology.sites_of t)
    → list_any (λ (g : Segment). not (is_known t g)) gs ≡ false → repeats (sites_in gs) ≡ false → judged.order ≡ order → judged.stops ≡ stops_at (stop_at gs ns (lefts_in merged)) (topology.sites_of t)
    → IsSurvey t states gs ns judged.controllers.items → IsJudgement t states first gs judged
judged_is t states first gs ns walks merged order judged same_sites same_steps m left rising known once order_is stops_are survey =
    let merge_is : IsMergeFrom message_from first (sites_in gs) (steps_within gs ns) (lefts_in merged) order =
    subst (λ l. IsMergeFrom message_from first (sites_in gs) l (lefts_in merged) order) same_steps
    (subst (λ ss. IsMergeFrom message_from first ss (lefts_in walks) (lefts_in merged) order) same_sites m) in
    let left_is : LeavesUnderWay message_from first (sites_in gs) (steps_within gs ns) (lefts_in merged) (waiting judged.queues) =
    subst (λ l. LeavesUnderWay message_from first (sites_in gs) l (lefts_in merged) (waiting judged.queues)) same_steps
    (subst (λ ss. LeavesUnderWay message_from first ss (lefts_in walks) (lefts_in merged) (waiting judged.queues)) same_sites left) in
    judgement t states first gs ns survey.lengths (lefts_in merged) order merge_is rising (known_in t gs known) judged order_is stops_are once left_is survey.stand

-- ---- whether there is a stop

pub is_none : {X : Type 0} (xs : List X) (b : Bool) → b ≡ (length xs == 0) → b ≡ true → length xs ≡ 0
is_none xs b is yes' = eqb-true (length xs) 0 (sym is ∙ yes')

pub is_some : {X : Type 0} (xs : List X) (b : Bool) → b ≡ (length xs == 0) → b ≡ false → 0 < length xs
is_some xs b is no' = elim (cases_eq (length xs) 0) [
  | inl e ↦ absurd (true≢false (sym (is ∙ eq-eqb (length xs) 0 e) ∙ no'))
  | inr apart ↦ omega (arith, apart)
]

-- ---- journals that begin with their world

-- where nothing is under way at first
pub first_judgement : (t : Topology) (first : ℕ → ℕ → List Message) (gs : List Segment) (judged : Judged) → ((a b : ℕ) → first a b ≡ []) → IsJudgement t (λ s. empty_state) first gs judged
    → IsJudgement t (λ s. empty_state) (λ a b. []) gs judged
first_judgement t first gs judged none are = subst (λ f. IsJudgement t (λ s. empty_state) f gs judged) (λ i a b. none a b i) are

module _ (t : Topology) (gs : List Segment) (judged : Judged) (are : IsJudgement t (λ s. empty_state) (λ a b. []) gs judged) where
  pub order_is : judged.stops ≡ [] → IsOrderOf t gs judged.order
  order_is none = record {
    events = are.events;
    in_turn = are.in_turn;
    run = record { lawful = are.run.lawful; in_order = are.run.in_order };
    kept = λ s. are.kept s ∙ ap (λ rows. before_stop rows s (journal_of gs s)) none;
  }

  pub stops_are : 0 < length judged.stops → AreStops t gs judged.stops
  stops_are some = record {
    some = some;
    ascending = are.ascending;
    each = are.each;
    comes = (are.events, record { lawful = are.run.lawful; in_order = are.run.in_order }, are.kept);
    most = λ others is_run begin. are.most others (record { lawful = is_run.lawful; in_order = is_run.in_order }) begin;
  }

  pub no_run : 0 < length judged.stops → ComeFromRun t (journal_of gs) → ⊥
  no_run some come = stops_refuse t (λ s. empty_state) (λ a b. []) gs judged are some come.0 (record { lawful = come.1.lawful; in_order = come.1.in_order }) come.2
