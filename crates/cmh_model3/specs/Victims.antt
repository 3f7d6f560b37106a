-- A victim is enough: once the declared processes that lie on cycles have withdrawn, no cycle is left.
use Rattle.std.specs.Prelude.{◌≡◌, ◌⊎◌, ℕ, Bool, true, false, List, ◌∷◌, ◌++◌}
use Rattle.std.specs.List.{AllByRecursion}
use Rattle.cmh_model3.specs.declared.event.Event.{Event}
use Rattle.cmh_model3.specs.declared.event.Event.TheVariants.{Withdraw, Got}
use Rattle.cmh_model3.specs.Entries.{WorldEvent}
use Rattle.cmh_model3.specs.Lists.{in_list}
use Rattle.cmh_model3.specs.State.{is_blocked, waits_for}
use Rattle.cmh_model3.specs.Runs.{IsDeclared, IsDrained, IsRun, state_of}
use Rattle.cmh_model3.specs.Waits.{IsCycle, IsNext, OnCycle, ends, is_ask}

-- nobody asks in these events
abbrev pub NobodyAsks : List WorldEvent → Type 0
NobodyAsks events = AllByRecursion (λ (e : WorldEvent). is_ask e.entry.event ≡ false) events

-- in rest, which comes after before, k withdraws all the waits that it has then
abbrev pub WithdrawsAll : (ℕ → ℕ) → List WorldEvent → List WorldEvent → ℕ → Type 0
WithdrawsAll home before rest k =
    (so_far : List WorldEvent) × (e : WorldEvent) × (more : List WorldEvent) × (ks : List ℕ)
    × (rest ≡ so_far ++ e ∷ more) × (e.entry.event ≡ Withdraw k ks)
    × ((y : ℕ) → waits_for (state_of home (home k) (before ++ so_far)) k y ≡ true → in_list ks y ≡ true)

-- at some moment of rest, which comes after before, k is active
abbrev pub IsReleased : (ℕ → ℕ) → List WorldEvent → List WorldEvent → ℕ → Type 0
IsReleased home before rest k =
    (so_far : List WorldEvent) × (more : List WorldEvent) × (rest ≡ so_far ++ more)
    × (is_blocked (state_of home (home k) (before ++ so_far)) k ≡ false)

-- each declared process that lies on a cycle does this
abbrev pub EachVictim : (ℕ → ℕ) → List WorldEvent → (ℕ → Type 0) → Type 0
EachVictim home before Does = (k : ℕ) → IsDeclared home before k → OnCycle before k → Does k

abbrev pub NoCycle : List WorldEvent → Type 0
NoCycle events = (i : ℕ) → OnCycle events i → ⊥

-- From a drained run on, where nobody asks and each declared process on a cycle withdraws all its waits, no cycle is left.
abbrev pub VictimsAreEnough : Type 0
VictimsAreEnough =
    (home : ℕ → ℕ) (before rest : List WorldEvent) → IsRun home (before ++ rest) → IsDrained before → NobodyAsks rest
    → EachVictim home before (WithdrawsAll home before rest) → NoCycle (before ++ rest)

-- The same where each of them is active at some moment, by withdrawals or by replies.
abbrev pub ReleasedAreEnough : Type 0
ReleasedAreEnough =
    (home : ℕ → ℕ) (before rest : List WorldEvent) → IsRun home (before ++ rest) → IsDrained before → NobodyAsks rest
    → EachVictim home before (IsReleased home before rest) → NoCycle (before ++ rest)

-- an event of these ends the wait of j for k
abbrev pub EndsIn : List WorldEvent → ℕ → ℕ → Type 0
EndsIn rest j k =
    (so_far : List WorldEvent) × (e : WorldEvent) × (more : List WorldEvent)
    × (rest ≡ so_far ++ e ∷ more) × (ends j k e.entry.event ≡ true)

-- Where others ask meanwhile, some wait of each cycle that was there ends.
abbrev pub VictimsEndEachCycle : Type 0
VictimsEndEachCycle =
    (home : ℕ → ℕ) (before rest : List WorldEvent) → IsRun home (before ++ rest) → IsDrained before
    → EachVictim home before (WithdrawsAll home before rest)
    → (i next : ℕ) (members : List ℕ) → IsCycle before i next members
    → (j : ℕ) × (k : ℕ) × IsNext i (next ∷ members) j k × EndsIn rest j k

-- a message came from another site
abbrev pub is_delivery : Event → Bool
is_delivery (Got from clock frame) = true
is_delivery event = false

-- a delivery, or a withdrawal by a process that was declared before
abbrev pub IsResolution : (ℕ → ℕ) → List WorldEvent → WorldEvent → Type 0
IsResolution home before e =
    (is_delivery e.entry.event ≡ true)
    ⊎ ((k : ℕ) × (ks : List ℕ) × (e.entry.event ≡ Withdraw k ks) × IsDeclared home before k)

-- From each drained run such steps alone can lead to a drained run without a cycle.
abbrev pub VictimsCanEnd : Type 0
VictimsCanEnd =
    (home : ℕ → ℕ) (before : List WorldEvent) → IsRun home before → IsDrained before
    → (rest : List WorldEvent) × IsRun home (before ++ rest) × AllByRecursion (IsResolution home before) rest
    × IsDrained (before ++ rest) × NoCycle (before ++ rest)
