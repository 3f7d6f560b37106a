-- The rows of two bases, and controllers that can turn.
use Rattle.std.specs.Prelude.{◌≡◌, ℕ}
use Rattle.cmh_controller3.specs.Controller.{Controller, state_of}
use Rattle.cmh_segment3.specs.declared.base.Base.{Base}
use Rattle.cmh_segment3.specs.States.{BeginsEpoch, turned_to}

-- they say the same of processes
pub record AreSameRows (one other : Base) : Type 0 where
  pub waits : one.waits ≡ other.waits
  pub leaving : one.leaving ≡ other.leaving
  pub owed : one.owed ≡ other.owed
  pub dependents : one.dependents ≡ other.dependents
  pub declared : one.declared ≡ other.declared
  pub stamps : one.stamps ≡ other.stamps

-- a turn of the controller begins an epoch
abbrev pub CanTurn : Controller → Type 0
CanTurn c = (epoch : ℕ) → BeginsEpoch epoch (turned_to epoch (state_of c))
