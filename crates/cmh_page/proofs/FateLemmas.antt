-- What becomes of probes.
use Rattle.std.proofs.Common.{◌≡◌, ℕ, ◌+◌, ◌<◌, Bool, true, false, true≢false, List, [], ◌∷◌, ◌++◌, length, take, drop, get_or, Option, None, Some, refl, sym, ap, ◌∙◌, subst, arith, take-append-drop}
use Rattle.std.specs.Prelude.{not, ◌&&◌, if◌then◌else◌}
use Rattle.std.proofs.lemmas.List.{take_more}
use Rattle.cmh_frames.specs.declared.frame.Frame.TheVariants.{Request, Reply as Reply_frame, Probe}
use Rattle.cmh_frames.specs.Topology.{Topology, At}
use Rattle.cmh_frames.specs.declared.event.Event.{Event}
use Rattle.cmh_frames.specs.declared.event.Event.TheVariants.{Ask, Reply, Start, Got}
use Rattle.cmh_frames.specs.Entries.{Entry}
use Rattle.cmh_frames.specs.Relation.{has, with_pair}
use Rattle.cmh_frames.specs.State.{State, empty_state, is_blocked}
use Rattle.cmh_frames.specs.Rules.{Accepts, Sends, after, declared_after, probe_acts}
use Rattle.cmh_frames.specs.Journals.{IsLawful, state_after, value}
use Rattle.cmh_frames.proofs.Journals.{lawful_front, lawful_rest}
use Rattle.cmh_frames.proofs.Outcomes.{one_outcome}
use Rattle.cmh_frames.proofs.Pairs.{has-with_same, has-without_same}
use Rattle.cmh_controller.specs.Controller.{Controller, new_controller}
use Rattle.cmh_controller.specs.Refusals.{Refuses}
use Rattle.cmh_controller.specs.Steps.{Prepares, taken_back}
use Rattle.cmh_controller.specs.declared.prepared.Prepared.{Prepared}
use Rattle.cmh_controller.specs.declared.refusal.Refusal.{Refusal}
use Rattle.cmh_controller.specs.declared.refusal.Refusal.TheVariants.{UnknownProcess, NotHere, BadTargets, Blocked, NotBlocked, NotOwed, AlreadyDeclared, Unlawful, Memory}
use Rattle.cmh_controller.proofs.Replaying.{Replaying, replay_begins, replay_goes_on}
use Rattle.cmh_page.specs.declared.fate.Fate.{Fate}
use Rattle.cmh_page.specs.declared.fate.Fate.TheVariants.{Acts, Active, Answered, Known}
use Rattle.cmh_page.specs.Fates.{fate_in, fates_from, fates_of}
use Rattle.cmh_page.specs.Inner.Settled.{StepsSomehow, first_reason, is_of_blocked, settled}

-- ---- what a controller's answers tell

none_some : {n : ℕ} {o : Option ℕ} → o ≡ None → o ≡ Some n → ⊥
none_some e f = cc

not_false : (b : Bool) → (b ≡ false → ⊥) → b ≡ true
not_false true h = refl
not_false false h = absurd (h refl)

-- a start that is refused tells whether its process waits
pub refused_tells : (t : Topology) (s : ℕ) (v : State) (p : ℕ) (reason : Refusal) → At t p s → Refuses t s v (Start p) reason
    → is_of_blocked reason ≡ is_blocked v p
refused_tells t s v p UnknownProcess here refuses = absurd (none_some refuses.holds here)
refused_tells t s v p NotHere here refuses = absurd (refuses.holds here)
refused_tells t s v p BadTargets here refuses = absurd refuses.holds
refused_tells t s v p Blocked here refuses = absurd refuses.holds
refused_tells t s v p NotBlocked here refuses = sym refuses.holds
refused_tells t s v p NotOwed here refuses = absurd refuses.holds
refused_tells t s v p AlreadyDeclared here refuses =
    let earlier : 5 < 7 = omega arith in
    sym (not_false (is_blocked v p) (refuses.first NotBlocked earlier))
refused_tells t s v p Unlawful here refuses = absurd refuses.holds
refused_tells t s v p Memory here refuses = sym refuses.holds.1

-- ---- a probe that is neither that of an active process nor that of an answered wait

both : (x y z : Bool) → x ≡ true → y ≡ false → z ≡ true → (x && (not y && z)) ≡ true
both true false true hx hy hz = refl
both false y z hx hy hz = absurd (true≢false (sym hx))
both true true z hx hy hz = absurd (true≢false hy)
both true false false hx hy hz = absurd (true≢false (sym hz))

module _ (t : Topology) (s : ℕ) (v : State) (a o f k : ℕ) (d : Option ℕ) where
  abbrev e : Event
  e = Got a (Probe (o, f, k))

  abbrev marked : State
  marked = record v { dependents = with_pair v.dependents k o; declared = declared_after v.declared d }

  marks : (b : Bool) → b ≡ true → (if b then marked else v).dependents ≡ with_pair v.dependents k o
  marks true h = refl
  marks false h = absurd (true≢false (sym h))

  -- one that acted was not known
  acted_new : (acted : Bool) → taken_back t s (after t s v e d) e acted d ≡ v → acted ≡ true → has v.dependents k o ≡ false
  acted_new true back h =
      sym (ap (λ (x : State). has x.dependents k o) back) ∙ has-without_same (after t s v e d).dependents k o
  acted_new false back h = absurd (true≢false (sym h))

  -- one that did not act was known
  idle_known : (acted known : Bool) → has v.dependents k o ≡ known → taken_back t s (after t s v e d) e acted d ≡ v
      → acted ≡ false → is_blocked v k ≡ true → has v.owed k f ≡ true → known ≡ true
  idle_known acted true is back h blocked owed = refl
  idle_known true false is back h blocked owed = absurd (true≢false h)
  idle_known false false is back h blocked owed =
      let acts : probe_acts v o f k ≡ true = both (is_blocked v k) (has v.dependents k o) (has v.owed k f) blocked is owed in
      let same : (after t s v e d).dependents ≡ v.dependents = ap (λ (x : State). x.dependents) back in
      absurd (true≢false (sym (has-with_same v.dependents k o)
      ∙ ap (λ r. has r k o) (sym (marks (probe_acts v o f k) acts) ∙ same) ∙ is))

  chosen : (blocked owed known acted : Bool) → (acted ≡ true → known ≡ false) → (acted ≡ false → blocked ≡ true → owed ≡ true → known ≡ true)
      → settled e (if not blocked then Some Active else (if not owed then Some Answered else None)) acted
      ≡ Some (if not blocked then Active else (if not owed then Answered else (if known then Known else Acts)))
  chosen false owed known acted h i = refl
  chosen true false known acted h i = refl
  chosen true true false true h i = refl
  chosen true true true false h i = refl
  chosen true true true true h i = absurd (true≢false (h refl))
  chosen true true false false h i = absurd (true≢false (sym (i refl refl refl)))

  probe_settled : (acted : Bool) → taken_back t s (after t s v e d) e acted d ≡ v
      → settled e (first_reason v e) acted ≡ fate_in v e
  probe_settled acted back =
      chosen (is_blocked v k) (has v.owed k f) (has v.dependents k o) acted
      (acted_new acted back) (idle_known acted (has v.dependents k o) refl back)

-- what is settled after the first half of a step is what becomes of the probe
pub settled_is : (old new : Controller) (e : Event) (prepared : Prepared) → Prepares old e prepared new
    → settled e (first_reason old.state e) prepared.acted ≡ fate_in old.state e
settled_is old new (Ask asker targets) p is = refl
settled_is old new (Reply holder asker) p is = refl
settled_is old new (Start i) p is = refl
settled_is old new (Got a (Request (asker, holder))) p is = refl
settled_is old new (Got a (Reply_frame (holder, asker))) p is = refl
settled_is old new (Got a (Probe (o, f, k))) p is =
    probe_settled old.topology old.site old.state a o f k p.outcome.declared p.acted is.back

-- ---- entries, one after the other

fates_more : (t : Topology) (s : ℕ) (v : State) (es : List Entry) (e : Entry)
    → fates_from t s v (es ++ e ∷ []) ≡ fates_from t s v es ++ fate_in (state_after t s v es) e.event ∷ []
fates_more t s v [] e = refl
fates_more t s v (f ∷ es) e = ap (λ l. fate_in v f.event ∷ l) (fates_more t s (after t s v f.event f.declared) es e)

-- what is next in a lawful journal is accepted, with its outcome
pub next_lawful : (t : Topology) (s : ℕ) (es : List Entry) (i : ℕ) (e : Entry) → i < length es → e ≡ get_or es i e → IsLawful t s es
    → Accepts t s (value t s (take i es)) e.event × Sends t s (value t s (take i es)) e.event e.sent e.declared
next_lawful t s es i e within is lawful =
    let front = lawful_front t s empty_state (take (i + 1) es) (drop (i + 1) es) (subst (IsLawful t s) (sym (take-append-drop (i + 1) es)) lawful) in
    let next = take_more es i e within ∙ ap (λ y. take i es ++ y ∷ []) (sym is) in
    let rest = lawful_rest t s empty_state (take i es) (e ∷ []) (subst (IsLawful t s) next front) in
    (rest.0, rest.1)

-- a controller that has taken the entries before, and what became of their probes
pub record Following (t : Topology) (s : ℕ) (entries : List Entry) (place : ℕ) (controller : Controller) (fates : List (Option Fate)) : Type 0 where
  pub replaying : Replaying t s entries place controller
  pub fates_are : fates ≡ fates_of t s (take place entries)

pub follow_begins : (t : Topology) (s : ℕ) (entries : List Entry) (c : Controller) (fates : List (Option Fate)) → c ≡ new_controller t s
    → fates ≡ [] → Following t s entries 0 c fates
follow_begins t s entries c fates is none =
    record {
      replaying = subst (Replaying t s entries 0) (sym is) (replay_begins t s entries);
      fates_are = none;
    }

pub can_take : (t : Topology) (s : ℕ) (es : List Entry) (i : ℕ) (e : Entry) (c : Controller) → i < length es → e ≡ get_or es i e
    → IsLawful t s es → Replaying t s es i c → Accepts c.topology c.site c.state e.event
can_take t s es i e c within is lawful r =
    subst (λ (x : Controller). Accepts x.topology x.site x.state e.event) (sym r.is) (next_lawful t s es i e within is lawful).0

pub follows_on : (t : Topology) (s : ℕ) (es : List Entry) (i : ℕ) (e : Entry) (old new : Controller) (fates : List (Option Fate)) (fate : Option Fate)
    → i < length es → e ≡ get_or es i e → IsLawful t s es → Following t s es i old fates
    → fate ≡ fate_in old.state e.event → StepsSomehow old e.event new → Following t s es (i + 1) new (fates ++ fate ∷ [])
follows_on t s es i e old new fates fate within is lawful so_far told step =
    let sent = step.0 in
    let declared = step.1 in
    let took = step.2 in
    let v = value t s (take i es) in
    let next = next_lawful t s es i e within is lawful in
    let sends = subst (λ (x : Controller). Sends x.topology x.site x.state e.event sent declared) so_far.replaying.is took.sends in
    let same = one_outcome t s v e.event e.sent sent e.declared declared next.1 sends in
    let more = take_more es i e within ∙ ap (λ y. take i es ++ y ∷ []) (sym is) in
    record {
      replaying = replay_goes_on t s es i e old new sent declared within is so_far.replaying took.accepted took.sends took.stands same.0 same.1;
      fates_are = ap (λ l. l ++ fate ∷ []) so_far.fates_are
          ∙ ap (λ x. fates_of t s (take i es) ++ x ∷ []) (told ∙ ap (λ (x : Controller). fate_in x.state e.event) so_far.replaying.is)
          ∙ sym (fates_more t s empty_state (take i es) e)
          ∙ ap (fates_of t s) (sym more);
    }
