-- The rules of a site that has a clock alone: it ticks as it is told, takes over a greater one, and can be set forward.
use Rattle.std.specs.Prelude.{◌≡◌, ℕ, ◌+◌, ◌<◌, ◌≤◌, max, List, [], ◌∷◌, Option, None}
use Rattle.cmh_runs.specs.declared.entry.Outcome.{Outcome}
use Rattle.cmh_machine.specs.Transitions.{Transitions}
use Rattle.cmh_machine.specs.Meaning.{MachineMeaning}
use Rattle.cmh_lab_machine.specs.declared.clock.Event.{Event}
use Rattle.cmh_lab_machine.specs.declared.clock.Event.TheVariants.{Tell, Got, Turn}
use Rattle.cmh_lab_machine.specs.declared.clock.Frame.{Frame}
use Rattle.cmh_lab_machine.specs.declared.clock.Refusal.{Refusal}
use Rattle.cmh_lab_machine.specs.declared.clock.Refusal.TheVariants.{Spent, Late}

abbrev pub Accepts : ℕ → Event → Type 0
Accepts v (Tell to) = v < 255
Accepts v (Got from frame) = Unit {0}
Accepts v (Turn clock) = v < clock

abbrev pub Sends : ℕ → Event → List (ℕ × Frame) → Option ℕ → Type 0
Sends v (Tell to) sent declared = (sent ≡ (to, record { clock = v + 1 }) ∷ []) × (declared ≡ None)
Sends v (Got from frame) sent declared = (sent ≡ []) × (declared ≡ None)
Sends v (Turn clock) sent declared = (sent ≡ []) × (declared ≡ None)

abbrev pub after : ℕ → Event → Option ℕ → ℕ
after v (Tell to) declared = v + 1
after v (Got from frame) declared = max v frame.clock
after v (Turn clock) declared = clock

abbrev pub transitions : Transitions ℕ Event Frame
transitions = record { Accepts = Accepts; Sends = Sends; after = after }

abbrev pub Refuses : ℕ → Event → Refusal → Type 0
Refuses v (Tell to) Spent = 255 ≤ v
Refuses v (Turn clock) Late = clock ≤ v
Refuses v event reason = ⊥

-- The record of an entry is the clock after it.
abbrev pub clock_meaning : MachineMeaning ℕ ℕ Refusal (Outcome Frame) ℕ Event Frame
clock_meaning = record {
  transitions = transitions;
  state = λ v. v;
  start = λ v. v;
  Refuses = Refuses;
  sent = λ outcome. outcome.sent;
  declared = λ outcome. outcome.declared;
  Tells = λ v event outcome. Unit {0};
  spelling = λ v entry. after v entry.event entry.declared ∷ [];
}

-- it stands where it stood, and declares nobody
abbrev pub IsPrepared : ℕ → Event → Outcome Frame → ℕ → Type 0
IsPrepared v event half x = (x ≡ v) × Accepts v event × (half.declared ≡ None)
