-- What holds of all that is held stays so, step by step.
use Rattle.std.proofs.Common.{◌≡◌, ◌∙◌, ℕ, ◌+◌, Bool, true, false, List, length, map, set, get_or, Option, None, Some, sym, ap, subst, arith}
use Rattle.std.specs.Prelude.{All, MatchOption, slice_get}
use Rattle.std.proofs.lemmas.List.{length-map, length-replicate, length-set}
use Rattle.std.proofs.lemmas.List.Elements.{All-map, All-set}
use Rattle.std.proofs.lemmas.Option.{get_or_from_slice_get, slice_get_within}
use Rattle.cmh_frames.specs.declared.edition.Edition.{Edition}
use Rattle.cmh_frames.specs.Edition.{target_limit}
use Rattle.cmh_frames.specs.Topology.{Topology, sites_of}
use Rattle.cmh_frames.specs.Entries.{Entry}
use Rattle.cmh_frames.specs.Rules.{Accepts, Sends, after}
use Rattle.cmh_frames.proofs.Narrow.{narrow_first}
use Rattle.cmh_controller.specs.Controller.{Controller, new_controller}
use Rattle.cmh_journal.specs.Entries.{IsWhole}
use Rattle.cmh_journal.specs.Journal.{Journal}
use Rattle.cmh_journal.specs.WholeEntries.{IsStep, EachStepWhole, WaitsStayFew, HasFewWaits}
use Rattle.cmh_play.specs.History.{History, Adds, AreBlank, Grows, blank_journal, kept_of}
use Rattle.cmh_play.specs.Held.{AreKept, AreReady, IsReady}
use Rattle.cmh_play.specs.Sites.{AreOfEdition}

-- a controller before its first step
new_ready : (t : Topology) (s : ℕ) → IsReady t (new_controller t s)
new_ready t s = record { topology = λ i. t; few = narrow_first (target_limit t.edition) }

pub all_new : (t : Topology) (sites : List ℕ) → All (IsReady t) (map (new_controller t) sites)
all_new t sites = All-map (IsReady t) (new_controller t) sites (λ k d l. new_ready t (get_or sites k d))

-- ---- a step of a controller

module _ (t : Topology) (c : Controller) (ready : IsReady t c) (entry : Entry) (accepts : Accepts c.topology c.site c.state entry.event)
    (sends : Sends c.topology c.site c.state entry.event entry.sent entry.declared) where
  step_is : IsStep t c.site c.state entry
  step_is = subst (λ (x : Topology). IsStep x c.site c.state entry) ready.topology (record { accepts = accepts; sends = sends })

  -- its entry may be pushed to each journal
  pub pushable : EachStepWhole t → (journals : List Journal) → AreOfEdition t journals → (place : ℕ) (j : Journal) → slice_get journals place ≡ Some j → IsWhole j.edition entry
  pushable whole journals edition place j at =
      let is : j.edition ≡ t.edition =
      sym (ap (λ (x : Journal). x.edition) (get_or_from_slice_get journals place j j at)) ∙ edition place j (slice_get_within journals place j at) in
      subst (λ (e : Edition). IsWhole e entry) (sym is) (whole c.site c.state entry ready.few step_is)

  pub ready_after : WaitsStayFew t → (d : Controller) → d ≡ record c { state = after c.topology c.site c.state entry.event entry.declared } → IsReady t d
  ready_after stay d becomes = subst (IsReady t) (sym becomes) (record {
    topology = ready.topology;
    few = subst (λ (x : Topology). HasFewWaits t (after x c.site c.state entry.event entry.declared)) (sym ready.topology) (stay c.site c.state entry ready.few step_is);
  })

-- ---- the history

pub kept_after : (t : Topology) (old new : History) (place : ℕ) (entry : Entry) → AreOfEdition t old.journals → Adds old new place entry → AreKept t old new
kept_after t old new place entry edition adds = record {
  counted = ap length adds.counted ∙ length-set old.steps place (get_or old.steps place 0 + 1);
  edition = go (slice_get old.journals place) (λ j. λ at. at) adds.written;
}
  where
    go : (o : Option Journal) → ((j : Journal) → o ≡ Some j → slice_get old.journals place ≡ Some j)
        → MatchOption o (new.journals ≡ old.journals) (λ journal. Grows old.journals new.journals place journal entry) → AreOfEdition t new.journals
    go None found same = subst (AreOfEdition t) (sym same) edition
    go (Some j) found grows =
        let at = found j (λ i. Some j) in
        subst (AreOfEdition t) (sym grows.others)
        (All-set (λ (x : Journal). x.edition ≡ t.edition) old.journals place grows.grown
        (grows.holds.edition ∙ sym (ap (λ (x : Journal). x.edition) (get_or_from_slice_get old.journals place j j at)) ∙ edition place j (slice_get_within old.journals place j at)) edition)

pub ready_set : (t : Topology) (cs : List Controller) (old new : History) (place : ℕ) (d : Controller) → AreReady t cs old → IsReady t d → AreKept t old new → AreReady t (set cs place d) new
ready_set t cs old new place d all ready kept = record {
  each = length-set cs place d ∙ all.each;
  ready = All-set (IsReady t) cs place d ready all.ready;
  counted = kept.counted ∙ all.counted;
  edition = kept.edition;
}

-- ---- at the beginning

pub ready_new : (t : Topology) (keeps : Bool) (cs : List Controller) (history : History) → cs ≡ map (new_controller t) (sites_of t) → AreBlank t keeps history → AreReady t cs history
ready_new t keeps cs history are blank = record {
  each = ap length are ∙ length-map (sites_of t) (new_controller t);
  ready = subst (All (IsReady t)) (sym are) (all_new t (sites_of t));
  counted = ap length blank.no_steps ∙ length-replicate (length (sites_of t)) 0;
  edition = subst (AreOfEdition t) (sym blank.no_entries) (go keeps);
}
  where
    go : (keeps : Bool) → AreOfEdition t (kept_of keeps (map (blank_journal t.edition) (sites_of t)))
    go true = All-map (λ (j : Journal). j.edition ≡ t.edition) (blank_journal t.edition) (sites_of t) (λ k d l. λ i. t.edition)
    go false = λ k d l. absurd (omega arith)
