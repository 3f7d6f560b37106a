-- Bases that say the end of an epoch follow it.
use Rattle.std.proofs.Common.{◌≡◌, ℕ, suc, ◌*◌, ◌^◌, ◌<◌, ◌==◌, ◌&&◌, ◌||◌, Bool, true, false, List, [], ◌∷◌, map, if◌then◌else◌, inl, inr, refl, sym, ap, ◌∙◌, subst, arith}
use Rattle.std.specs.List.{All}
use Rattle.std.proofs.lemmas.Bool.{cases_Bool, cases_eq, eq-eqb, ne_eqb, MatchBool-at_true, MatchBool-at_false, or_parts, true≢false}
use Rattle.cmh_controller3.specs.Controller.{Controller, state_of}
use Rattle.cmh_merge.specs.Queues.{Queues, waiting}
use Rattle.cmh_model3.specs.Journals.{state_after}
use Rattle.cmh_model3.specs.Rules.{clock_limit}
use Rattle.cmh_model3.specs.State.{State, empty_state}
use Rattle.cmh_model3.specs.declared.frame.Message.{Message}
use Rattle.cmh_topology3.specs.Topology.{IsWellFormed, Topology, is_site, site_of, sites_of}
use Rattle.cmh_segment3.specs.Entries.{step_of}
use Rattle.cmh_segment3.specs.States.{BeginsEpoch, state_in, turned_to}
use Rattle.cmh_segment3.specs.declared.base.Base.{Base}
use Rattle.cmh_segment3.specs.declared.segment.Segment.{Segment}
use Rattle.cmh_segment3.proofs.States.{state_comes_back}
use Rattle.cmh_audit3.specs.Journals.{journal_of}
use Rattle.cmh_audit3.specs.Set.{AreOfWorld, has_site, sites_in}
use Rattle.cmh_audit3.specs.Standing.{StandBehind}
use Rattle.cmh_audit3.proofs.Sets.{world_parts}
use Rattle.cmh_history3.specs.Between.{between, under_way}
use Rattle.cmh_history3.specs.EpochSet.{AreOfEpoch}
use Rattle.cmh_history3.specs.Turns.{Follow}
use Rattle.cmh_history3.specs.Worlds.{end_of, state_at}
use Rattle.cmh_history3.specs.Follows.{IsEndOf}
use Rattle.cmh_history3.specs.Inner.Rows.{CanTurn}
use Rattle.cmh_history3.proofs.Elsewhere.{only_between}
use Rattle.cmh_history3.specs.Says.{IsBaseFor, IsSaid, SayEnd, SaysState}

-- ---- lists

first_of : {X : Type 0} (P : X → Type 0) (x : X) (xs : List X) → All P (x ∷ xs) → P x
first_of P x xs all = all 0 x (omega arith)

rest_of : {X : Type 0} (P : X → Type 0) (x : X) (xs : List X) → All P (x ∷ xs) → All P xs
rest_of P x xs all = λ k d l. all (suc k) d (omega (arith, l))

all_sites : (P : ℕ → Type 0) (sites : List ℕ) → All P sites → (s : ℕ) → has_site sites s ≡ true → P s
all_sites P [] all s there = absurd (true≢false (sym there))
all_sites P (x ∷ sites) all s there = elim (cases_eq x s) [
  | inl e ↦ subst P e (first_of P x sites all)
  | inr n ↦ all_sites P sites (rest_of P x sites all) s (sym (ap (λ z. z || has_site sites s) (ne_eqb x s n)) ∙ there)
]

-- ---- the state that a base says

says_turned : (epoch : ℕ) (v : State) (base : Base) → BeginsEpoch epoch (turned_to epoch v) → IsBaseFor v base → state_in epoch base ≡ turned_to epoch v
says_turned epoch v base begins for = ap (state_in epoch) for.is ∙ state_comes_back epoch (turned_to epoch v) for.stop for.links begins

next_state : (epoch s : ℕ) (v : State) (next : List Segment) → BeginsEpoch epoch (turned_to epoch v) → AreOfEpoch epoch next → SaysState next s v → state_at next s ≡ turned_to epoch v
next_state epoch s v [] begins of_epoch says = absurd says
next_state epoch s v (g ∷ next) begins of_epoch says = elim (cases_Bool (g.header.site == s)) [
  | inl here ↦
      ap (λ z. if z then state_in g.header.epoch g.base else state_at next s) here ∙ ap (λ n. state_in n g.base) (first_of (λ (h : Segment). h.header.epoch ≡ epoch) g next of_epoch)
      ∙ says_turned epoch v g.base begins (MatchBool-at_true (IsBaseFor v g.base) (SaysState next s v) here says)
  | inr far ↦
      ap (λ z. if z then state_in g.header.epoch g.base else state_at next s) far
      ∙ next_state epoch s v next begins (rest_of (λ (h : Segment). h.header.epoch ≡ epoch) g next of_epoch) (MatchBool-at_false (IsBaseFor v g.base) (SaysState next s v) far says)
]

-- ---- the controller of a site

pub record IsControllerAt (s : ℕ) (v : State) (P : Controller → Type 0) : Type 0 where
  pub controller : Controller
  pub holds : P controller
  pub site : controller.site ≡ s
  pub state : state_of controller ≡ v

controller_at : (t : Topology) (states : ℕ → State) (P : Controller → Type 0) (gs : List Segment) (cs : List Controller) → StandBehind t states gs cs → All P cs → (s : ℕ) → has_site (sites_in gs) s ≡ true
    → IsControllerAt s (state_after (site_of t) s (states s) (map step_of (journal_of gs s))) P
controller_at t states P [] cs stand all s there = absurd (true≢false (sym there))
controller_at t states P (g ∷ gs) [] stand all s there = absurd stand
controller_at t states P (g ∷ gs) (c ∷ cs) stand all s there = elim (cases_eq g.header.site s) [
  | inl e ↦ record {
    controller = c;
    holds = first_of P c cs all;
    site = stand.0.site ∙ e;
    state = stand.0.state ∙ ap (λ q. state_after (site_of t) q (states q) (map step_of g.entries)) e
        ∙ ap (λ es. state_after (site_of t) s (states s) (map step_of es)) (sym (ap (λ z. if z then g.entries else journal_of gs s) (eq-eqb g.header.site s e)));
  }
  | inr n ↦
      let later = controller_at t states P gs cs stand.1 (rest_of P c cs all) s (sym (ap (λ z. z || has_site (sites_in gs) s) (ne_eqb g.header.site s n)) ∙ there) in
      record {
        controller = later.controller;
        holds = later.holds;
        site = later.site;
        state = later.state ∙ ap (λ es. state_after (site_of t) s (states s) (map step_of es)) (sym (ap (λ z. if z then g.entries else journal_of gs s) (ne_eqb g.header.site s n)));
      }
]

-- ---- what has no segment

no_state : (gs : List Segment) (s : ℕ) → has_site (sites_in gs) s ≡ false → state_at gs s ≡ empty_state
no_state [] s none = refl
no_state (g ∷ gs) s none =
    let parts = or_parts (g.header.site == s) (has_site (sites_in gs) s) none in
    ap (λ z. if z then state_in g.header.epoch g.base else state_at gs s) parts.0 ∙ no_state gs s parts.1

no_journal : (gs : List Segment) (s : ℕ) → has_site (sites_in gs) s ≡ false → journal_of gs s ≡ []
no_journal [] s none = refl
no_journal (g ∷ gs) s none =
    let parts = or_parts (g.header.site == s) (has_site (sites_in gs) s) none in
    ap (λ z. if z then g.entries else journal_of gs s) parts.0 ∙ no_journal gs s parts.1

no_segment : (t : Topology) (gs : List Segment) → AreOfWorld t gs → (s : ℕ) → is_site t s ≡ false → has_site (sites_in gs) s ≡ false
no_segment t gs of_world s unknown = elim (cases_Bool (has_site (sites_in gs) s)) [
  | inl there ↦ absurd (true≢false (sym ((world_parts t gs of_world).known s there) ∙ unknown))
  | inr none ↦ none
]

-- ---- the law

-- a controller whose state is said, and that can turn
abbrev IsBoth : ℕ → List Segment → Controller → Type 0
IsBoth epoch next c = IsSaid epoch next c × CanTurn c

module _ (t : Topology) (formed : IsWellFormed t) (cs : List Controller) (queues : Queues Message) (epoch : ℕ) (next : List Segment) (of_world : AreOfWorld t next) (of_epoch : AreOfEpoch epoch next) (fits : epoch * 2 ^ 32 < clock_limit)
    (say : SayEnd (sites_of t) cs (waiting queues) epoch next) (turn : All CanTurn cs) (gs : List Segment) (end : IsEndOf t gs cs queues) where
  stands : (s : ℕ) → is_site t s ≡ true → IsControllerAt s ((end_of t gs (waiting queues)).state s) (IsBoth epoch next)
  stands s known =
      controller_at t (state_at gs) (IsBoth epoch next) gs cs end.end.stand (λ k d l. (say.states k d l, turn k d l)) s ((world_parts t gs end.set.of_world).covered s known)

  said_at : (s : ℕ) → is_site t s ≡ true → state_at next s ≡ turned_to epoch ((end_of t gs (waiting queues)).state s)
  said_at s known =
      let at = stands s known in
      next_state epoch s ((end_of t gs (waiting queues)).state s) next (subst (λ v. BeginsEpoch epoch (turned_to epoch v)) at.state (at.holds.1 epoch)) of_epoch
      (subst (λ v. SaysState next s v) at.state (subst (λ q. SaysState next q (state_of at.controller)) at.site at.holds.0.state))

  others_at : (s : ℕ) → is_site t s ≡ false → state_at next s ≡ (end_of t gs (waiting queues)).state s
  others_at s unknown =
      let none = no_segment t gs end.set.of_world s unknown in
      no_state next s (no_segment t next of_world s unknown)
      ∙ sym (ap (λ es. state_after (site_of t) s (state_at gs s) (map step_of es)) (no_journal gs s none) ∙ no_state gs s none)

  nothing_elsewhere : (a b : ℕ) → (is_site t a && is_site t b) ≡ false → waiting queues a b ≡ []
  nothing_elsewhere =
      only_between t formed gs end.order cs queues end.end (λ s unknown. no_journal gs s (no_segment t gs end.set.of_world s unknown))
      (λ s known. record { facts = (end.within s known).facts; askers = (end.within s known).askers })

  same_links : (a b : ℕ) → between (sites_of t) next a b ≡ waiting queues a b
  same_links a b = go (has_site (sites_of t) a) (has_site (sites_of t) b) refl refl
    where
      go : (y z : Bool) → has_site (sites_of t) a ≡ y → has_site (sites_of t) b ≡ z → between (sites_of t) next a b ≡ waiting queues a b
      go true true e f =
          ap (λ y. if y && has_site (sites_of t) b then under_way next a b else []) e ∙ ap (λ z. if z then under_way next a b else []) f
          ∙ sym (all_sites (λ q. waiting queues a q ≡ under_way next a q) (sites_of t) (all_sites (λ p. All (λ q. waiting queues p q ≡ under_way next p q) (sites_of t)) (sites_of t) say.links a e) b f)
      go true false e f = let no : (has_site (sites_of t) a && has_site (sites_of t) b) ≡ false = ap (λ y. y && has_site (sites_of t) b) e ∙ f in ap (λ z. if z then under_way next a b else []) no ∙ sym (nothing_elsewhere a b no)
      go false z e f = let no : (has_site (sites_of t) a && has_site (sites_of t) b) ≡ false = ap (λ y. y && has_site (sites_of t) b) e in ap (λ z. if z then under_way next a b else []) no ∙ sym (nothing_elsewhere a b no)

  pub they_follow : Follow t (end_of t gs (waiting queues)) epoch next
  they_follow = record {
    states = said_at;
    others = others_at;
    under_way = same_links;
    later = λ s known. subst (λ v. v.clock < epoch * 2 ^ 32) (stands s known).state (stands s known).holds.0.later;
    fits = fits;
  }
