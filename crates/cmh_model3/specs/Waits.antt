-- Who waits for whom at the end of a list of a world's events, and cycles of waits.
use Rattle.std.specs.Prelude.{◌≡◌, ◌⊎◌, ℕ, Bool, true, false, not, ◌&&◌, ◌||◌, List, [], ◌∷◌, ◌==◌}
use Rattle.cmh_model3.specs.declared.event.Event.{Event}
use Rattle.cmh_model3.specs.declared.event.Event.TheVariants.{Ask, Reply, Withdraw}
use Rattle.cmh_model3.specs.Entries.{WorldEvent}
use Rattle.cmh_model3.specs.Lists.{in_list}
use Rattle.cmh_model3.specs.Paths.{IsPath}

-- the event is an ask of j that names k
abbrev pub begins : ℕ → ℕ → Event → Bool
begins j k (Ask asker targets) = (asker == j) && in_list targets k
begins j k event = false

-- the event is a withdrawal of j that names k
abbrev pub leaves : ℕ → ℕ → Event → Bool
leaves j k (Withdraw asker targets) = (asker == j) && in_list targets k
leaves j k event = false

-- the event is the reply of k to j, or a withdrawal of j that names k
abbrev pub ends : ℕ → ℕ → Event → Bool
ends j k (Reply holder asker) = (holder == k) && (asker == j)
ends j k (Withdraw asker targets) = (asker == j) && in_list targets k
ends j k event = false

abbrev pub wait_after : Bool → ℕ → ℕ → List WorldEvent → Bool
wait_after b j k [] = b
wait_after b j k (e ∷ es) = wait_after (begins j k e.entry.event || (not (ends j k e.entry.event) && b)) j k es

-- j waits for k at the end of the list
abbrev pub Waits : List WorldEvent → ℕ → ℕ → Type 0
Waits events j k = wait_after false j k events ≡ true

-- each of i, next and the further members waits for the next one, and the last is i
abbrev pub IsCycle : List WorldEvent → ℕ → ℕ → List ℕ → Type 0
IsCycle events i next members = IsPath (Waits events) i (next ∷ members) i

abbrev pub OnCycle : List WorldEvent → ℕ → Type 0
OnCycle events i = (next : ℕ) × (members : List ℕ) × IsCycle events i next members

-- y comes right after x on the path from p by these members
abbrev pub IsNext : ℕ → List ℕ → ℕ → ℕ → Type 0
IsNext p [] x y = ⊥
IsNext p (q ∷ qs) x y = ((p ≡ x) × (q ≡ y)) ⊎ IsNext q qs x y

-- the event is an ask, of some process or of nobody
abbrev pub is_ask : Event → Bool
is_ask (Ask asker targets) = true
is_ask event = false
