-- Epochs that go on to one another are one run.
use Rattle.std.proofs.Common.{◌≡◌, ℕ, ◌+◌, ◌<◌, ◌||◌, true, suc, Option, None, Some, List, [], ◌∷◌, ◌++◌, length, map, take, get_or, if◌then◌else◌, inl, inr, refl, sym, ap, ◌∙◌, subst, append-nil, arith}
use Rattle.std.specs.Prelude.{IfNone, IfSome, slice_get}
use Rattle.std.specs.List.{All}
use Rattle.std.proofs.lemmas.Bool.{cases_eq, eq-eqb, ne_eqb, true≢false}
use Rattle.std.proofs.lemmas.Slice.Zip.{all_zipped_more}
use Rattle.std.proofs.lemmas.List.{append_assoc, take_more}
use Rattle.std.proofs.lemmas.Option.{slice_get_read}
use Rattle.cmh_controller3.specs.Controller.{Controller}
use Rattle.cmh_epochs3.specs.Chains.{joined}
use Rattle.cmh_epochs3.specs.Laws.{Chain, ChainsAreRuns, Epoch, World}
use Rattle.cmh_merge.specs.Queues.{Queues, waiting}
use Rattle.cmh_model3.specs.Entries.{WorldEvent}
use Rattle.cmh_model3.specs.Runs.{entries_of}
use Rattle.cmh_model3.specs.declared.frame.Message.{Message}
use Rattle.cmh_runs.proofs.Journals.{entries_of-append}
use Rattle.cmh_topology3.specs.Topology.{Topology, site_of}
use Rattle.cmh_segment3.specs.Entries.{step_of}
use Rattle.cmh_segment3.specs.States.{state_in}
use Rattle.cmh_segment3.specs.WholeEntries.{IsWithin}
use Rattle.cmh_segment3.specs.declared.segment.Segment.{Segment}
use Rattle.cmh_segment3.proofs.WholeEntries.{steps_come_back}
use Rattle.cmh_audit3.specs.Journals.{journal_of}
use Rattle.cmh_audit3.specs.Set.{AreOfWorld, has_site, sites_in}
use Rattle.cmh_audit3.proofs.Sets.{world_parts}
use Rattle.cmh_bases3.specs.Bases.{IsRestored}
use Rattle.cmh_history3.specs.EpochSet.{AreOfEpoch, IsEpochSet}
use Rattle.cmh_history3.specs.Turns.{Follow, TurnsLeadOn}
use Rattle.cmh_history3.specs.Worlds.{AreJournalsFrom, StandAtBases, end_of, state_at, world_of}
use Rattle.cmh_history3.specs.Chains.{AreOneRun, ComeFromOneRun, epoch_of, steps_in, turns_to}
use Rattle.cmh_history3.specs.Follows.{BeginWithin, IsEndOf}
use Rattle.cmh_history3.specs.Inner.Leading.{AreEpoch, AreRestored, GoesOn, LeadOn}

-- ---- values

pub none_of : {X : Type 0} (P : Type 0) (found : Option X) → found ≡ None → IfNone found P → P
none_of P found is holds = subst (λ o. IfNone o P) is holds

pub some_of : {X : Type 0} (P : X → Type 0) (found : Option X) (x : X) → found ≡ Some x → IfSome found P → P x
some_of P found x is holds = subst (λ o. IfSome o P) is holds

-- the first of lists, and one that stands in the others
pub first_all : {X : Type 0} (P : X → Type 0) (xs : List X) (x : X) (more : List X) → xs ≡ x ∷ more → All P xs → P x
first_all P xs x more e all = subst (All P) e all 0 x (omega arith)

pub later_all : {X : Type 0} (P : X → Type 0) (xs : List X) (x : X) (more : List X) (i : ℕ) (y : X) → xs ≡ x ∷ more → i < length more → y ≡ get_or more i y → All P xs → P y
later_all P xs x more i y e l is all = subst P (sym is) (subst (All P) e all (suc i) y (omega (arith, l)))

-- what holds of the first one, as it was taken, and those behind it
pub in_all : {X : Type 0} (P : List X → Type 0) (xs : List X) (first taken : X) (more : List X) → xs ≡ first ∷ more → taken ≡ first → P (taken ∷ more) → P xs
in_all P xs first taken more e is h = subst P (sym e) (subst (λ x. P (x ∷ more)) is h)

-- the next one stands behind the first
pub next_there : (first next : List Segment) (more : List (List Segment)) (i : ℕ) → i < length more → next ≡ get_or more i next → slice_get (first ∷ more) (i + 1) ≡ Some next
next_there first next more i l is =
    let e : suc i ≡ i + 1 = omega arith in
    subst (λ k. slice_get (first ∷ more) k ≡ Some next) e (slice_get_read (first ∷ more) (length (first ∷ more)) (suc i) next refl (omega (arith, l)) is)

-- ---- one run

steps_are : (t : Topology) (gs : List Segment) (events : List WorldEvent) → AreJournalsFrom (world_of t gs) events (journal_of gs) → (s : ℕ) → entries_of s events ≡ map step_of (journal_of gs s)
steps_are t gs events kept s = sym (ap (map step_of) (sym (kept s)) ∙ steps_come_back (state_at gs s).clock (entries_of s events))

-- epochs with the turns between them
record AreParts (t : Topology) (gs : List Segment) (more : List (List Segment)) : Type 0 where
  pub parts : List Epoch
  pub last : World
  pub chain : Chain (site_of t) (world_of t gs) parts last
  pub comes : (s : ℕ) → entries_of s (joined parts) ≡ steps_in t gs more s

parts_of : (t : Topology) (gs : List Segment) (more : List (List Segment)) → LeadOn t gs more → AreParts t gs more
parts_of t gs [] leads = record {
  parts = record { events = leads.events; next = leads.end } ∷ [];
  last = leads.end;
  chain = (leads.epoch, refl);
  comes = λ s. ap (entries_of s) (append-nil leads.events) ∙ steps_are t gs leads.events leads.kept s;
}
parts_of t gs (next ∷ more) leads =
    let on = leads.0 in
    let rest = parts_of t next more leads.1 in
    let turns = turns_to t next in
    record {
      parts = record { events = on.events; next = on.end } ∷ record { events = turns; next = world_of t next } ∷ rest.parts;
      last = rest.last;
      chain = (on.epoch, (on.turns, rest.chain));
      comes = λ s.
          entries_of-append s on.events (turns ++ joined rest.parts)
          ∙ ap (λ l. l ++ entries_of s (turns ++ joined rest.parts)) (steps_are t gs on.events on.kept s)
          ∙ ap (λ l. map step_of (journal_of gs s) ++ l) (entries_of-append s turns (joined rest.parts) ∙ ap (λ l. entries_of s turns ++ l) (rest.comes s));
    }

pub one_run : (t : Topology) (gs : List Segment) (more : List (List Segment)) → ChainsAreRuns → LeadOn t gs more → ComeFromOneRun t gs more
one_run t gs more law leads =
    let all = parts_of t gs more leads in
    record { events = joined all.parts; run = (law (site_of t) (world_of t gs) all.last all.parts all.chain).0; comes = all.comes }

-- ---- what leads from the first epoch to those behind it

-- whatever the epoch goes on to, the first one goes on to with the epochs before that
abbrev pub LeadsOn : Topology → List Segment → List (List Segment) → List Segment → Type 0
LeadsOn t first before gs = (rest : List (List Segment)) → LeadOn t gs rest → LeadOn t first (before ++ rest)

pub ends_here : (t : Topology) (first : List Segment) (before : List (List Segment)) (gs : List Segment) → LeadsOn t first before gs → AreEpoch t gs → LeadOn t first before
ends_here t first before gs leads epoch = subst (LeadOn t first) (append-nil before) (leads [] epoch)

pub one_further : (t : Topology) (first gs next : List Segment) (more : List (List Segment)) (i : ℕ) → i < length more → next ≡ get_or more i next → GoesOn t gs next
    → LeadsOn t first (take i more) gs → LeadsOn t first (take (i + 1) more) next
one_further t first gs next more i l is on leads rest later =
    let here : take (i + 1) more ≡ take i more ++ next ∷ [] = take_more more i next l ∙ ap (λ y. take i more ++ y ∷ []) (sym is) in
    subst (LeadOn t first) (sym (ap (λ l. l ++ rest) here ∙ append_assoc (take i more) (next ∷ []) rest)) (leads (next ∷ rest) (on, later))

pub runs_before : (t : Topology) (first : List Segment) (more : List (List Segment)) (i : ℕ) → ComeFromOneRun t first (take i more) → AreOneRun t (take (i + 1) (first ∷ more))
runs_before t first more i run =
    let e : suc i ≡ i + 1 = omega arith in
    subst (λ k. AreOneRun t (take k (first ∷ more))) e run

-- ---- one epoch goes on to the next

pub goes_on : (t : Topology) (gs next : List Segment) (cs : List Controller) (queues : Queues Message) → TurnsLeadOn t → IsEndOf t gs cs queues
    → Follow t (end_of t gs (waiting queues)) (epoch_of next) next → GoesOn t gs next
goes_on t gs next cs queues turns end follow = record {
  events = end.end.events;
  end = end_of t gs (waiting queues);
  epoch = record { run = end.end.run; leads = end.end.leads };
  kept = end.end.kept;
  turns = turns (end_of t gs (waiting queues)) (epoch_of next) next follow;
}

pub ends_run : (t : Topology) (gs : List Segment) (cs : List Controller) (queues : Queues Message) → IsEndOf t gs cs queues → AreEpoch t gs
ends_run t gs cs queues end = record {
  events = end.end.events;
  end = end_of t gs (waiting queues);
  epoch = record { run = end.end.run; leads = end.end.leads };
  kept = end.end.kept;
}

pub of_its_epoch : (t : Topology) (next : List Segment) → IsEpochSet t next → AreOfEpoch (epoch_of next) next
of_its_epoch t [] set = λ k d l. absurd (omega (arith, l))
of_its_epoch t (g ∷ next) set = subst (λ e. AreOfEpoch e (g ∷ next)) (sym (set.of_epoch 0 g (omega arith))) set.of_epoch

-- ---- the controllers of bases

pub restored_more : (t : Topology) (gs : List Segment) (i : ℕ) (g : Segment) (cs : List Controller) (c : Controller) → i < length gs → g ≡ get_or gs i g → AreRestored t (take i gs) cs
    → IsRestored t g.header.site g.header.epoch g.base c → AreRestored t (take (i + 1) gs) (cs ++ c ∷ [])
restored_more t gs i g cs c l is all new =
    let next : take (i + 1) gs ≡ take i gs ++ g ∷ [] = take_more gs i g l ∙ ap (λ y. take i gs ++ y ∷ []) (sym is) in
    subst (λ xs. AreRestored t xs (cs ++ c ∷ [])) (sym next)
    (all_zipped_more (λ (x : Segment) (k : Controller). IsRestored t x.header.site x.header.epoch x.base k) (take i gs) cs g c all new)

pub stand_at : (t : Topology) (gs : List Segment) (cs : List Controller) → AreRestored t gs cs → StandAtBases t gs cs
stand_at t [] [] all = tt
stand_at t [] (c ∷ cs) all = absurd all
stand_at t (g ∷ gs) [] all = absurd all
stand_at t (g ∷ gs) (c ∷ cs) all = (record { topology = all.0.topology; site = all.0.site; state = all.0.state }, stand_at t gs cs all.1)

within_in : (t : Topology) (gs : List Segment) (cs : List Controller) → AreRestored t gs cs → (s : ℕ) → has_site (sites_in gs) s ≡ true → IsWithin (site_of t) s (state_at gs s)
within_in t [] cs all s there = absurd (true≢false (sym there))
within_in t (g ∷ gs) [] all s there = absurd all
within_in t (g ∷ gs) (c ∷ cs) all s there = elim (cases_eq g.header.site s) [
  | inl e ↦
      subst (λ v. IsWithin (site_of t) s v) (sym (ap (λ z. if z then state_in g.header.epoch g.base else state_at gs s) (eq-eqb g.header.site s e)))
      (subst (λ q. IsWithin (site_of t) q (state_in g.header.epoch g.base)) e all.0.within)
  | inr n ↦
      subst (λ v. IsWithin (site_of t) s v) (sym (ap (λ z. if z then state_in g.header.epoch g.base else state_at gs s) (ne_eqb g.header.site s n)))
      (within_in t gs cs all.1 s (sym (ap (λ z. z || has_site (sites_in gs) s) (ne_eqb g.header.site s n)) ∙ there))
]

pub begin_within : (t : Topology) (gs : List Segment) (cs : List Controller) → AreOfWorld t gs → AreRestored t gs cs → BeginWithin t gs
begin_within t gs cs of_world all s known = within_in t gs cs all s ((world_parts t gs of_world).covered s known)
