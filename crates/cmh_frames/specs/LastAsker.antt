-- Which process of a cycle asked last.
use Rattle.std.specs.Prelude.{◌≡◌, ℕ, Bool, true, false, List, ◌∷◌, ◌++◌, ◌==◌}
use Rattle.std.specs.List.{list_any, AllByRecursion}
use Rattle.cmh_frames.specs.declared.event.Event.{Event}
use Rattle.cmh_frames.specs.declared.event.Event.TheVariants.{Ask}
use Rattle.cmh_frames.specs.Entries.{WorldEvent}
use Rattle.cmh_frames.specs.Waits.{IsCycle, IsDeclared}

-- the event is an ask of p
abbrev pub is_ask_of : ℕ → Event → Bool
is_ask_of p (Ask asker targets) = asker == p
is_ask_of p event = false

-- Of these members d is the last that asked: it is one of them, some entry is an ask
-- of it, and no later one is an ask of a member.
pub record AskedLast (events : List WorldEvent) (members : List ℕ) (d : ℕ) : Type 0 where
  pub member : list_any (λ q. q == d) members ≡ true
  pub before : List WorldEvent
  pub ask : WorldEvent
  pub later : List WorldEvent
  pub whole : events ≡ before ++ ask ∷ later
  pub asks : is_ask_of d ask.entry.event ≡ true
  pub none_later : AllByRecursion (λ (e : WorldEvent). list_any (λ p. is_ask_of p e.entry.event) members ≡ false) later

-- Each cycle has a process that asked last of its members, and that one is declared.
pub record LastAskerDeclared (events : List WorldEvent) : Type 0 where
  pub some : (i : ℕ) (members : List ℕ) → IsCycle events i members → (d : ℕ) × AskedLast events members d
  pub declared : (i : ℕ) (members : List ℕ) → IsCycle events i members
      → (d : ℕ) → AskedLast events members d → IsDeclared events d
