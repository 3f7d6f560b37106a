-- The laws of reports: what a report on a run tells of those that are declared, and what is told of each declaration.
use Rattle.std.specs.Prelude.{◌≡◌, ◌≢◌, ◌⊎◌, ℕ, true, List, ◌∷◌, ◌++◌, ⊤, Some}
use Rattle.std.specs.List.{AllByRecursion}
use Rattle.cmh_model3.specs.Entries.{WorldEvent}
use Rattle.cmh_model3.specs.Laws.{stop_of}
use Rattle.cmh_model3.specs.Paths.{IsPath}
use Rattle.cmh_model3.specs.Runs.{IsRun}
use Rattle.cmh_model3.specs.Stops.{stop, withdrawn_past}
use Rattle.cmh_model3.specs.Waits.{IsCycle, IsNext, OnCycle}
use Rattle.cmh_report3.specs.declared.cycle.CycleNow.{CycleNow}
use Rattle.cmh_report3.specs.declared.cycle.CycleNow.TheVariants as cycle
use Rattle.cmh_report3.specs.declared.cycle.Deadlock.{Deadlock}
use Rattle.cmh_report3.specs.declared.report.Report.{Report}
use Rattle.cmh_report3.specs.Endings.{StandsSince}
use Rattle.cmh_report3.specs.Reports.{AreTold, Leaves, Reports}

-- This holds of each process that a report on a run tells of as declared.
abbrev pub OfEachDeclared : ((ℕ → ℕ) → List WorldEvent → Deadlock → Type 0) → Type 0
OfEachDeclared Holds =
    (home : ℕ → ℕ) (events : List WorldEvent) (report : Report) → IsRun home events → Reports home events report
    → AllByRecursion (Holds home events) report.declared.items

-- An entry declares the process, none after it does, and the stop that is told is that of this declaration.
pub record DeclaresLast (home : ℕ → ℕ) (events : List WorldEvent) (i n : ℕ) : Type 0 where
  pub before : List WorldEvent
  pub entry : WorldEvent
  pub behind : List WorldEvent
  pub events_are : events ≡ before ++ entry ∷ behind
  pub declares : entry.entry.declared ≡ Some i
  pub is_last : AllByRecursion (λ (e : WorldEvent). e.entry.declared ≢ Some i) behind
  pub stop_is : n ≡ stop_of home before entry

abbrev pub EachWasDeclaredThere : Type 0
EachWasDeclaredThere = OfEachDeclared (λ home events told. DeclaresLast home events told.process told.stop)

-- It lay on a cycle of waits at that stop. So a report never says that there was none.
abbrev pub EachLayOnCycle : Type 0
EachLayOnCycle = OfEachDeclared (λ home events told.
    OnCycle (stop told.stop events) told.process × (told.cycle ≢ cycle.None))

-- Where a report tells that a cycle was left, it names one of its members, which has withdrawn from its next past the stop.
abbrev pub NamesLeaver : List WorldEvent → ℕ → CycleNow → Type 0
NamesLeaver events n (cycle.Left members by) =
    (j : ℕ) × (by ≡ Some j) × Leaves (λ j k. withdrawn_past n j k (λ s. 0) events ≡ true) members.items j
NamesLeaver events n now = ⊤

-- So a report never says that nobody left a cycle.
abbrev pub EachWasLeftByMember : Type 0
EachWasLeftByMember = OfEachDeclared (λ home events told. NamesLeaver events told.stop told.cycle)

-- This holds of each declaration of a run that is told.
abbrev pub OfEachDeclaration : ((ℕ → ℕ) → List WorldEvent → Deadlock → Type 0) → Type 0
OfEachDeclaration Holds =
    (home : ℕ → ℕ) (events : List WorldEvent) (told : List Deadlock) → IsRun home events → AreTold events told
    → AllByRecursion (Holds home events) told

-- An entry declares the process, and the stop that is told is that of this declaration.
pub record Declares (home : ℕ → ℕ) (events : List WorldEvent) (i n : ℕ) : Type 0 where
  pub before : List WorldEvent
  pub entry : WorldEvent
  pub behind : List WorldEvent
  pub events_are : events ≡ before ++ entry ∷ behind
  pub declares : entry.entry.declared ≡ Some i
  pub stop_is : n ≡ stop_of home before entry

abbrev pub EachIsDeclaredThere : Type 0
EachIsDeclaredThere = OfEachDeclaration (λ home events told. Declares home events told.process told.stop)

-- Its process lay on a cycle of waits at that stop, and what is told is what became of one.
abbrev pub EachHasCycle : Type 0
EachHasCycle = OfEachDeclaration (λ home events told.
    OnCycle (stop told.stop events) told.process × (told.cycle ≢ cycle.None))

-- Where it tells that the cycle was left, it names a member that has withdrawn from its next past the stop.
abbrev pub EachHasLeaver : Type 0
EachHasLeaver = OfEachDeclaration (λ home events told. NamesLeaver events told.stop told.cycle)

-- Of each cycle of each stop of a run the waits stand since, or a member withdrew from its next past the stop.
abbrev pub CyclesStandOrAreLeft : Type 0
CyclesStandOrAreLeft =
    (home : ℕ → ℕ) (events : List WorldEvent) → IsRun home events
    → (n i next : ℕ) (members : List ℕ) → IsCycle (stop n events) i next members
    → IsPath (StandsSince n events) i (next ∷ members) i
    ⊎ ((j : ℕ) × (k : ℕ) × IsNext i (next ∷ members) j k × (withdrawn_past n j k (λ s. 0) events ≡ true))
