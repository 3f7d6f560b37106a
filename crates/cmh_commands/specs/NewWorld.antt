-- The command `new-world`: a line with the number of a world.
use Rattle.std.specs.Prelude.{◌≡◌, ◌≢◌, ℕ, true, List, [], ◌∷◌, ◌++◌, length, Option, ⊤}
use Rattle.std.specs.Io.KnownBytes.{Appends}
use Rattle.cmh_topology3.specs.World.{world_text}
use Rattle.cmh_console.specs.Device.{Writing}
use Rattle.cmh_console.specs.Faults.{NamesFault}
use Rattle.cmh_console.specs.declared.faults.Fault.{Fault}
use Rattle.cmh_console.specs.declared.faults.Fault.TheVariants.{Random, Output, Memory}

-- one line was written, and it is the number of some world: 16 bytes
abbrev pub TellsWorld : Option (List ℕ) → Option (List ℕ) → Type 0
TellsWorld old new = (world : List ℕ) × (length world ≡ 16) × Appends old new (world_text world ++ 10 ∷ [])

-- the system gave no random bytes, or memory was refused
abbrev pub IsUndrawn : Fault → Type 0
IsUndrawn Random = ⊤
IsUndrawn Memory = ⊤
IsUndrawn fault = ⊥

-- why no number is told; nothing was written then, but where the writer failed
abbrev pub IsWorldFault : {W : Type 0} → Writing W → Writing W → Fault → Type 0
IsWorldFault old new Output = new.has_failed ≡ true
IsWorldFault old new fault = IsUndrawn fault × (new ≡ old)

-- a number was told and flushed, or it is named why not
pub record WorldEnds {W E : Type 0} (old new : Writing W) (err_old err_new : Writing E) (status : ℕ) : Type 0 where
  pub told : status ≡ 0 → TellsWorld old.written new.written
  pub flushed : status ≡ 0 → new.is_flushed ≡ true
  pub silent : status ≡ 0 → err_new ≡ err_old
  pub fault : status ≢ 0 → NamesFault (λ fault. fault) (IsWorldFault old new) status err_old err_new
