-- Why a controller refuses an event: the first reason that holds, by their numbers.
use Rattle.std.specs.Prelude.{◌≡◌, ℕ, ◌<◌, true, false, ◌⊎◌, None}
use Rattle.std.specs.FinSet as set
use Rattle.cmh_frames.specs.Topology.{Topology, home, At, is_site}
use Rattle.cmh_frames.specs.declared.event.Event.{Event}
use Rattle.cmh_frames.specs.declared.event.Event.TheVariants.{Ask, Reply, Start, Got}
use Rattle.cmh_frames.specs.Relation.{has}
use Rattle.cmh_frames.specs.State.{State, is_blocked}
use Rattle.cmh_frames.specs.Rules.{AreTargets, Accepts}
use Rattle.cmh_controller.specs.declared.refusal.Refusal.{Refusal}
use Rattle.cmh_controller.specs.declared.refusal.Refusal.TheVariants.{UnknownProcess, NotHere, BadTargets, Blocked, NotBlocked, NotOwed, AlreadyDeclared, Unlawful, Memory}

-- the number that stands for a refusal in answers
abbrev pub number_of : Refusal → ℕ
number_of UnknownProcess = 1
number_of NotHere = 2
number_of BadTargets = 3
number_of Blocked = 4
number_of NotBlocked = 5
number_of NotOwed = 6
number_of AlreadyDeclared = 7
number_of Unlawful = 8
number_of Memory = 11

-- The reason holds of the event; out of memory can come only to an event that is accepted.
abbrev pub Holds : Topology → ℕ → State → Event → Refusal → Type 0
Holds t s v (Ask asker targets) UnknownProcess = home t asker ≡ None
Holds t s v (Ask asker targets) NotHere = ¬ At t asker s
Holds t s v (Ask asker targets) BadTargets = ¬ AreTargets t asker targets
Holds t s v (Ask asker targets) Blocked = is_blocked v asker ≡ true
Holds t s v (Reply holder asker) UnknownProcess = (home t holder ≡ None) ⊎ (home t asker ≡ None)
Holds t s v (Reply holder asker) NotHere = ¬ At t holder s
Holds t s v (Reply holder asker) Blocked = is_blocked v holder ≡ true
Holds t s v (Reply holder asker) NotOwed = has v.owed holder asker ≡ false
Holds t s v (Start i) UnknownProcess = home t i ≡ None
Holds t s v (Start i) NotHere = ¬ At t i s
Holds t s v (Start i) NotBlocked = is_blocked v i ≡ false
Holds t s v (Start i) AlreadyDeclared = set.contains v.declared i ≡ true
Holds t s v (Got a frame) Unlawful = ¬ Accepts t s v (Got a frame)
Holds t s v e Memory = Accepts t s v e
Holds t s v e reason = ⊥

-- it is the first reason that holds
pub record Refuses (t : Topology) (s : ℕ) (v : State) (e : Event) (reason : Refusal) : Type 0 where
  pub holds : Holds t s v e reason
  pub first : (earlier : Refusal) → number_of earlier < number_of reason → ¬ Holds t s v e earlier

-- why no controller of the site is made
abbrev pub RefusesSite : Topology → ℕ → Refusal → Type 0
RefusesSite t s NotHere = is_site t s ≡ false
RefusesSite t s Memory = is_site t s ≡ true
RefusesSite t s reason = ⊥
