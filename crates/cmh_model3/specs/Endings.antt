-- How a cycle of waits ends: a member withdraws.
use Rattle.std.specs.Prelude.{◌≡◌, ◌⊎◌, ◌↔◌, ℕ, ◌≤◌, true, false, ◌||◌, List, [], ◌∷◌, ◌++◌, Some}
use Rattle.std.specs.List.{AllByRecursion}
use Rattle.cmh_model3.specs.Entries.{WorldEvent}
use Rattle.cmh_model3.specs.Paths.{IsPath}
use Rattle.cmh_model3.specs.Runs.{IsRun, state_of}
use Rattle.cmh_model3.specs.Waits.{Waits, IsCycle, IsNext}
use Rattle.cmh_model3.specs.Stops.{stop, withdrawn_past, withdrawn}
use Rattle.cmh_model3.specs.Laws.{stop_of}

-- no member of the cycle withdraws from its next past stop n
abbrev pub NoneWithdrawn : ℕ → List WorldEvent → ℕ → ℕ → List ℕ → Type 0
NoneWithdrawn n events i next members =
    IsPath (λ j k. withdrawn_past n j k (λ s. 0) events ≡ false) i (next ∷ members) i

-- Whom an entry declares lies on one cycle that each longer run has at that stop, and that stands at the end of each in
-- which no member withdraws from its next past the stop.
abbrev pub DeclaredEndsByWithdrawal : Type 0
DeclaredEndsByWithdrawal =
    (home : ℕ → ℕ) (before : List WorldEvent) (e : WorldEvent) → IsRun home (before ++ e ∷ [])
    → (i : ℕ) → e.entry.declared ≡ Some i
    → (next : ℕ) × (members : List ℕ) × ((rest : List WorldEvent) → IsRun home (before ++ e ∷ rest)
    → IsCycle (stop (stop_of home before e) (before ++ e ∷ rest)) i next members
    × (NoneWithdrawn (stop_of home before e) (before ++ e ∷ rest) i next members → IsCycle (before ++ e ∷ rest) i next members))

-- Each cycle of each stop of a run stands at the end, or a member withdrew from its next past the stop.
abbrev pub EndsByWithdrawal : Type 0
EndsByWithdrawal =
    (home : ℕ → ℕ) (events : List WorldEvent) → IsRun home events
    → (n i next : ℕ) (members : List ℕ) → IsCycle (stop n events) i next members
    → IsCycle events i next members
    ⊎ ((j : ℕ) × (k : ℕ) × IsNext i (next ∷ members) j k × (withdrawn_past n j k (λ s. 0) events ≡ true))

-- The same of the stops of a beginning of a run, whether its sites have come to the stop or not: then a withdrawal after
-- the beginning counts too.
abbrev pub EndsByWithdrawalLater : Type 0
EndsByWithdrawalLater =
    (home : ℕ → ℕ) (before rest : List WorldEvent) → IsRun home (before ++ rest)
    → (n i next : ℕ) (members : List ℕ) → IsCycle (stop n before) i next members
    → IsCycle (before ++ rest) i next members
    ⊎ ((j : ℕ) × (k : ℕ) × IsNext i (next ∷ members) j k
    × ((withdrawn_past n j k (λ s. 0) (before ++ rest) || withdrawn j k rest) ≡ true))

-- the site of each of these processes has come to stop n
abbrev pub HaveComeTo : (ℕ → ℕ) → ℕ → List WorldEvent → List ℕ → Type 0
HaveComeTo home n events members = AllByRecursion (λ x. n ≤ (state_of home (home x) events).clock) members

-- Once its sites have come to stop n, a path of waits of that stop is one in each longer run, and no other is.
abbrev pub StopIsFixed : Type 0
StopIsFixed =
    (home : ℕ → ℕ) (before rest : List WorldEvent) → IsRun home (before ++ rest)
    → (n p : ℕ) (members : List ℕ) (q : ℕ) → HaveComeTo home n before (p ∷ members)
    → IsPath (Waits (stop n before)) p members q ↔ IsPath (Waits (stop n (before ++ rest))) p members q
