-- The rules of a controller: which events it accepts, its state afterwards, and what it sends and declares.
-- `t` is the topology of the world, `s` the site of the controller, and `v` its state before the event.
use Rattle.std.specs.Prelude.{◌≡◌, ◌≢◌, ℕ, ◌<◌, ◌≤◌, Bool, true, false, not, ◌&&◌, ◌⊎◌, ◌↔◌, List, [], ◌∷◌, ◌++◌, map, length, Contains, if◌then◌else◌, Option, None, Some, IsSome, MatchBool}
use Rattle.std.specs.List.{AllByRecursion}
use Rattle.std.specs.Option.{option_map_or}
use Rattle.std.specs.List.Sorted.{IsStrictlySortedBy}
use Rattle.std.specs.FinSet as set
use Rattle.cmh_frames.specs.declared.frame.Frame.{Frame}
use Rattle.cmh_frames.specs.declared.frame.Frame.TheVariants.{Request, Reply as Reply_frame, Probe}
use Rattle.cmh_frames.specs.Edition.{target_limit, starts_at_ask}
use Rattle.cmh_frames.specs.Topology.{Topology, home, At, is_at, site_of}
use Rattle.cmh_frames.specs.declared.event.Event.{Event}
use Rattle.cmh_frames.specs.declared.event.Event.TheVariants.{Ask, Reply, Start, Got}
use Rattle.cmh_frames.specs.Relation.{Relation, Numbers, pair_cmp, has, with_pair, without_pair, with_each, has_some, only_firsts}
use Rattle.cmh_frames.specs.State.{State, is_blocked}
use Rattle.cmh_frames.specs.Paths.{ReachesLocally, DependsOnItself}

-- ---- which events are accepted

-- What an ask may name: 1 to the limit of other known processes, ascending.
abbrev pub IsAscending : List ℕ → Type 0
IsAscending [] = Unit {0}
IsAscending (x ∷ xs) = AllByRecursion (λ y. x < y) xs × IsAscending xs

pub record AreTargets (t : Topology) (asker : ℕ) (targets : List ℕ) : Type 0 where
  pub some : 0 < length targets
  pub within : length targets ≤ target_limit t.edition
  pub ascending : IsAscending targets
  pub known : AllByRecursion (λ k. IsSome (home t k) × (k ≢ asker)) targets

-- The events that the controller of a site accepts.
abbrev pub Accepts : Topology → ℕ → State → Event → Type 0
Accepts t s v (Ask asker targets) = At t asker s × (is_blocked v asker ≡ false) × AreTargets t asker targets
Accepts t s v (Reply holder asker) =
    At t holder s × (is_blocked v holder ≡ false) × (has v.owed holder asker ≡ true) × IsSome (home t asker)
Accepts t s v (Start i) = At t i s × (is_blocked v i ≡ true) × (set.contains v.declared i ≡ false)
Accepts t s v (Got a (Request (asker, holder))) =
    (a ≢ s) × At t asker a × At t holder s × (has v.owed holder asker ≡ false)
Accepts t s v (Got a (Reply_frame (holder, asker))) =
    (a ≢ s) × At t holder a × At t asker s × (has v.waits asker holder ≡ true)
Accepts t s v (Got a (Probe (origin, from, to))) = (a ≢ s) × At t from a × At t to s × IsSome (home t origin)

-- A probe acts where its receiver is blocked, still owes the sender, and is not yet known to depend on the origin.
abbrev pub probe_acts : State → ℕ → ℕ → ℕ → Bool
probe_acts v origin from to = is_blocked v to && (not (has v.dependents to origin) && has v.owed to from)

-- ---- the state afterwards

abbrev pub declared_after : Numbers → Option ℕ → Numbers
declared_after known declared = option_map_or (set.insert known) declared known

-- each target that is at the site owes the asker at once
abbrev pub owed_after_ask : (ℕ → Bool) → Relation → ℕ → List ℕ → Relation
owed_after_ask is_here r asker [] = r
owed_after_ask is_here r asker (k ∷ ks) =
    if is_here k then with_pair (owed_after_ask is_here r asker ks) k asker else owed_after_ask is_here r asker ks

-- k was blocked by the waits before, and is not by these
abbrev pub becomes_active : Relation → Relation → ℕ → Bool
becomes_active before waits k = has_some before k && not (has_some waits k)

-- the state with these waits: what was known to depend on a process that becomes active is forgotten
abbrev pub with_fewer_waits : State → Relation → State
with_fewer_waits v waits =
    record v { waits = waits; dependents = only_firsts v.dependents (λ k. not (becomes_active v.waits waits k)) }

-- after an event, where the controller declared this process
abbrev pub after : Topology → ℕ → State → Event → Option ℕ → State
after t s v (Ask asker targets) declared =
    record v {
      waits = with_each v.waits asker targets;
      owed = owed_after_ask (λ p. is_at t p s) v.owed asker targets;
      declared = declared_after v.declared declared;
    }
after t s v (Reply holder asker) declared =
    let answered : State = record v { owed = without_pair v.owed holder asker } in
    if is_at t asker s then with_fewer_waits answered (without_pair v.waits asker holder) else answered
after t s v (Start i) declared = record v { declared = declared_after v.declared declared }
after t s v (Got a (Request (asker, holder))) declared = record v { owed = with_pair v.owed holder asker }
after t s v (Got a (Reply_frame (holder, asker))) declared = with_fewer_waits v (without_pair v.waits asker holder)
after t s v (Got a (Probe (origin, from, to))) declared =
    if probe_acts v origin from to
    then record v { dependents = with_pair v.dependents to origin; declared = declared_after v.declared declared }
    else v

-- ---- what is sent and declared

-- the requests of an ask: to each target of another site, in the targets' order
abbrev pub requests : Topology → ℕ → ℕ → List ℕ → List (ℕ × Frame)
requests t s asker [] = []
requests t s asker (k ∷ ks) =
    if is_at t k s then requests t s asker ks else (site_of t k, Request (asker, k)) ∷ requests t s asker ks

-- the reply, where the asker is at another site
abbrev pub replies : Topology → ℕ → ℕ → ℕ → List (ℕ × Frame)
replies t s holder asker = if is_at t asker s then [] else (site_of t asker, Reply_frame (holder, asker)) ∷ []

-- a wait for a process of another site, of a process that `from` reaches locally
abbrev pub IsEdgeFrom : Topology → ℕ → Relation → ℕ → ℕ × ℕ → Type 0
IsEdgeFrom t s waits from edge =
    ReachesLocally t s waits from edge.0 × (has waits edge.0 edge.1 ≡ true) × ((b : ℕ) × At t edge.1 b × (b ≢ s))

-- one thing for each wait of some kind, in the ascending order of the waits
pub record AreOneForEach (IsEdge : ℕ × ℕ → Type 0) {A : Type 0} (along : ℕ × ℕ → A) (things : List A) : Type 0 where
  pub edges : List (ℕ × ℕ)
  pub ascending : IsStrictlySortedBy pair_cmp edges
  pub all : (edge : ℕ × ℕ) → Contains edges edge ↔ IsEdge edge
  pub are : things ≡ map along edges

-- the probes of `origin` along each wait that leaves the site from what `from` reaches locally
abbrev pub AreProbes : Topology → ℕ → Relation → ℕ → ℕ → List (ℕ × Frame) → Type 0
AreProbes t s waits origin from sent =
    AreOneForEach (IsEdgeFrom t s waits from) (λ edge. (site_of t edge.1, Probe (origin, edge.0, edge.1))) sent

-- A process is declared, or probes go out. A declaration is recorded only where it is new.
abbrev pub DeclaresOrProbes : Topology → ℕ → State → Type 0 → ℕ → ℕ → List (ℕ × Frame) → Option ℕ → Type 0
DeclaresOrProbes t s v Deadlocked origin from sent declared =
    (Deadlocked × (sent ≡ []) × (declared ≡ (if set.contains v.declared origin then None else Some origin)))
    ⊎ ((Deadlocked → ⊥) × AreProbes t s v.waits origin from sent × (declared ≡ None))

abbrev pub Starts : Topology → ℕ → State → ℕ → List (ℕ × Frame) → Option ℕ → Type 0
Starts t s v i sent declared = DeclaresOrProbes t s v (DependsOnItself t s v.waits i) i i sent declared

abbrev pub Sends : Topology → ℕ → State → Event → List (ℕ × Frame) → Option ℕ → Type 0
Sends t s v (Ask asker targets) sent declared =
    MatchBool (starts_at_ask t.edition)
    ((probes : List (ℕ × Frame)) × (sent ≡ requests t s asker targets ++ probes)
    × Starts t s (after t s v (Ask asker targets) None) asker probes declared)
    ((sent ≡ requests t s asker targets) × (declared ≡ None))
Sends t s v (Reply holder asker) sent declared = (sent ≡ replies t s holder asker) × (declared ≡ None)
Sends t s v (Start i) sent declared = Starts t s v i sent declared
Sends t s v (Got a (Probe (origin, from, to))) sent declared =
    MatchBool (probe_acts v origin from to)
    (DeclaresOrProbes t s v (ReachesLocally t s v.waits to origin) origin to sent declared)
    ((sent ≡ []) × (declared ≡ None))
Sends t s v event sent declared = (sent ≡ []) × (declared ≡ None)
