-- Epochs, one after the other.
use Rattle.std.specs.Prelude.{◌≡◌, ℕ, List, [], ◌∷◌, ◌++◌}
use Rattle.cmh_runs.specs.declared.entry.WorldEvent.{WorldEvent}
use Rattle.cmh_runs.specs.Rules.{Rules}
use Rattle.cmh_epochs3.specs.Worlds.{World, IsRunFrom, LeadsTo}

-- the entries of an epoch, and the world of the bases that end it
pub record Epoch (State Event Frame : Type 0) : Type 0 where
  pub events : List (WorldEvent Event Frame)
  pub next : World State Frame

-- the entries of epochs, one epoch after the other
abbrev pub joined : {State Event Frame : Type 0} → List (Epoch State Event Frame) → List (WorldEvent Event Frame)
joined [] = []
joined (epoch ∷ epochs) = epoch.events ++ joined epochs

module _ {State Event Frame : Type 0} (got : ℕ → Event → List Frame) (rules : ℕ → Rules State Event Frame) where
  -- a run from the world of its bases to the world of the next ones
  pub record IsEpoch (world : World State Frame) (events : List (WorldEvent Event Frame)) (next : World State Frame) : Type 0 where
    pub run : IsRunFrom got rules world events
    pub leads : LeadsTo got rules world events next

  -- each begins at the bases that end the one before it
  abbrev pub Chain : World State Frame → List (Epoch State Event Frame) → World State Frame → Type 0
  Chain world [] next = world ≡ next
  Chain world (epoch ∷ epochs) next = IsEpoch world epoch.events epoch.next × Chain epoch.next epochs next
