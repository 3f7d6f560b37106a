-- What became of the cycles of a stop, of which the waits are held as sets.
use Rattle.std.specs.Prelude.{◌≡◌, ℕ, Bool, true, ◌&&◌, not}
use Rattle.cmh_report3.specs.declared.cycle.CycleNow.{CycleNow}
use Rattle.cmh_report3.specs.Reports.{BecameOf}

abbrev pub IsCycleOfStop : (ℕ → ℕ → Bool) → (ℕ → ℕ → Bool) → (ℕ → ℕ → Bool) → ℕ → CycleNow → Type 0
IsCycleOfStop waits ended left i now =
    BecameOf (λ j k. waits j k ≡ true) (λ j k. (waits j k && not (ended j k)) ≡ true) (λ j k. left j k ≡ true) i now
