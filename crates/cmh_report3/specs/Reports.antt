-- What a report says of a run.
use Rattle.std.specs.Prelude.{◌≡◌, ℕ, ◌≤◌, ◌↔◌, ◌==◌, true, List, ◌∷◌, [], length, map, Contains, Option, None, Some}
use Rattle.std.specs.List.{AllByRecursion, list_any}
use Rattle.std.specs.List.Sorted.{IsStrictlyIncreasing, IsStrictlySortedBy}
use Rattle.cmh_frames.specs.Relation.{pair_cmp}
use Rattle.cmh_frames.specs.Paths.{IsCycleOf}
use Rattle.cmh_cycles.specs.Cycles.{IsFirstCycleOf}
use Rattle.cmh_controller3.specs.Controller as control
use Rattle.cmh_model3.specs.Entries.{WorldEvent}
use Rattle.cmh_model3.specs.Runs.{IsDeclared, IsRun, state_of}
use Rattle.cmh_model3.specs.Stops.{stop, withdrawn_past}
use Rattle.cmh_model3.specs.Waits.{Waits, IsNext}
use Rattle.cmh_topology3.specs.Topology.{Topology, is_site, site_of}
use Rattle.cmh_report3.specs.declared.cycle.CycleNow.{CycleNow}
use Rattle.cmh_report3.specs.declared.cycle.CycleNow.TheVariants as cycle
use Rattle.cmh_report3.specs.declared.cycle.Deadlock.{Deadlock}
use Rattle.cmh_report3.specs.declared.report.Report.{Report}
use Rattle.cmh_report3.specs.Declarations.{declarations, newest_stop}
use Rattle.cmh_report3.specs.Endings.{StandsSince}
use Rattle.cmh_report3.specs.Transit.{in_transit}

-- Controllers of all sites, in any order, which stand where the events lead; and no event is of another site.
pub record StandEach (t : Topology) (events : List WorldEvent) (controllers : List control.Controller) : Type 0 where
  pub sites : (s : ℕ) → list_any (λ q. q == s) (map (λ (c : control.Controller). c.site) controllers) ≡ is_site t s
  pub topologies : AllByRecursion (λ (c : control.Controller). c.topology ≡ t) controllers
  pub states : AllByRecursion (λ (c : control.Controller). control.state_of c ≡ state_of (site_of t) c.site events) controllers
  pub of_world : AllByRecursion (λ (e : WorldEvent). is_site t e.site ≡ true) events

-- ---- cycles

-- no cycle of R goes through i
abbrev pub NoCycleOf : (ℕ → ℕ → Type 0) → ℕ → Type 0
NoCycleOf R i = (members : List ℕ) → IsCycleOf R i members → ⊥

-- on a cycle with these members j is followed by k, for whom it has given up to wait
abbrev pub Leaves : (ℕ → ℕ → Type 0) → List ℕ → ℕ → Type 0
Leaves Left [] j = ⊥
Leaves Left (first ∷ members) j = (k : ℕ) × IsNext first members j k × Left j k

-- the least of those who have
abbrev pub IsLeastLeaver : (ℕ → ℕ → Type 0) → List ℕ → Option ℕ → Type 0
IsLeastLeaver Left members None = (j : ℕ) → Leaves Left members j → ⊥
IsLeastLeaver Left members (Some by) = Leaves Left members by × ((j : ℕ) → Leaves Left members j → by ≤ j)

-- What became of the cycles of a stop through i, where `Stood` are the waits of the stop, `Stands` those of them that
-- stand since, and `Left` those that were given up since.
abbrev pub BecameOf : (ℕ → ℕ → Type 0) → (ℕ → ℕ → Type 0) → (ℕ → ℕ → Type 0) → ℕ → CycleNow → Type 0
BecameOf Stood Stands Left i (cycle.Stands members) = IsFirstCycleOf Stands i members.items
BecameOf Stood Stands Left i (cycle.Left members by) =
    NoCycleOf Stands i × IsFirstCycleOf Stood i members.items × IsLeastLeaver Left members.items by
BecameOf Stood Stands Left i cycle.None = NoCycleOf Stood i

-- What is told of a process and a stop is what became of the cycle there.
abbrev pub TellsCycle : List WorldEvent → Deadlock → Type 0
TellsCycle events told =
    BecameOf (Waits (stop told.stop events)) (StandsSince told.stop events)
    (λ j k. withdrawn_past told.stop j k (λ s. 0) events ≡ true) told.process told.cycle

-- What is told of a declared process: the stop of its newest declaration, and what became of the cycle there.
pub record IsTold (events : List WorldEvent) (told : Deadlock) : Type 0 where
  pub stop_is : told.stop ≡ newest_stop told.process 0 (λ s. 0) events
  pub cycle_is : TellsCycle events told

-- Each declaration of the events is told, in their order: with its stop, and with what became of the cycle there.
pub record AreTold (events : List WorldEvent) (told : List Deadlock) : Type 0 where
  pub each : map (λ (one : Deadlock). (one.process, one.stop)) told ≡ declarations (λ s. 0) events
  pub cycles : AllByRecursion (TellsCycle events) told

-- the events are a run, whatever sites their processes have
abbrev pub AreSomeRun : List WorldEvent → Type 0
AreSomeRun events = (home : ℕ → ℕ) × IsRun home events

-- ---- the report

-- What a report says of the events of a run: how many they are, and how many messages are under way; who waits for whom;
-- whom the controllers of the askers have as left and not answered; and of each declared process its cycle.
pub record Reports (home : ℕ → ℕ) (events : List WorldEvent) (report : Report) : Type 0 where
  pub counted : report.events ≡ length events
  pub under_way : report.in_transit ≡ in_transit events
  pub waits : (j k : ℕ) → Contains report.waits.items (j, k) ↔ Waits events j k
  pub waits_ascend : IsStrictlySortedBy pair_cmp report.waits.items
  pub leaving : (j k : ℕ) → Contains report.leaving.items (j, k) ↔ ((state_of home (home j) events).leaving j k ≡ true)
  pub leaving_ascend : IsStrictlySortedBy pair_cmp report.leaving.items
  pub declared : (i : ℕ) → Contains (map (λ (told : Deadlock). told.process) report.declared.items) i
      ↔ IsDeclared home events i
  pub declared_ascend : IsStrictlyIncreasing (map (λ (told : Deadlock). told.process) report.declared.items)
  pub told : AllByRecursion (IsTold events) report.declared.items
