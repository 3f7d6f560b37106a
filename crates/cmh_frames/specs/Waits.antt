-- Who waits for whom at the end of a list of a world's events, cycles of waits, and who was declared.
use Rattle.std.specs.Prelude.{◌≡◌, ℕ, Bool, true, false, not, ◌&&◌, ◌||◌, ◌⊎◌, List, [], ◌∷◌, ◌==◌, Some}
use Rattle.std.specs.List.{list_any}
use Rattle.cmh_frames.specs.declared.event.Event.{Event}
use Rattle.cmh_frames.specs.declared.event.Event.TheVariants.{Ask, Reply}
use Rattle.cmh_frames.specs.Entries.{WorldEvent}
use Rattle.cmh_frames.specs.Paths.{IsPath, IsCycleOf}

-- the event is an ask of j that names k
abbrev pub asks_for : ℕ → ℕ → Event → Bool
asks_for j k (Ask asker targets) = (asker == j) && list_any (λ q. q == k) targets
asks_for j k event = false

-- the event is the reply of k to j
abbrev pub grants : ℕ → ℕ → Event → Bool
grants k j (Reply holder asker) = (holder == k) && (asker == j)
grants k j event = false

-- an ask of j that names k begins the wait, and a reply of k to j ends it
abbrev pub wait_after : Bool → ℕ → ℕ → List WorldEvent → Bool
wait_after b j k [] = b
wait_after b j k (e ∷ es) = wait_after (asks_for j k e.entry.event || (not (grants k j e.entry.event) && b)) j k es

-- j waits for k at the end of the list
abbrev pub Waits : List WorldEvent → ℕ → ℕ → Type 0
Waits events j k = wait_after false j k events ≡ true

-- i is dependent on k: a path of at least one wait leads from i to k
abbrev pub DependsOn : List WorldEvent → ℕ → ℕ → Type 0
DependsOn events i k = (next : ℕ) × (members : List ℕ) × Waits events i next × IsPath (Waits events) next members k

-- a list of at least two members that begins and ends with i, in which each waits for the next
abbrev pub IsCycle : List WorldEvent → ℕ → List ℕ → Type 0
IsCycle events i members = IsCycleOf (Waits events) i members

abbrev pub OnCycle : List WorldEvent → ℕ → Type 0
OnCycle events i = (members : List ℕ) × IsCycle events i members

-- an entry of the list declares i
abbrev pub IsDeclared : List WorldEvent → ℕ → Type 0
IsDeclared [] i = ⊥
IsDeclared (e ∷ es) i = (e.entry.declared ≡ Some i) ⊎ IsDeclared es i
