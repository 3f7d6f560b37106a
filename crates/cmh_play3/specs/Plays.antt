-- How a script of edition 3 ends whose journals are kept.
use Rattle.std.specs.Prelude.{◌≡◌, ◌≢◌, ℕ, ◌⊎◌, true, List, Option, IfSome, ⊤}
use Rattle.cmh_console.specs.Device.{Reading, Writing}
use Rattle.cmh_console.specs.Dialogue.{IsDialogueFault}
use Rattle.cmh_console.specs.Faults.{NamesFault}
use Rattle.cmh_console.specs.declared.faults.Fault.{Fault}
use Rattle.cmh_console.specs.declared.faults.Fault.TheVariants as faults
use Rattle.cmh_console.specs.declared.keeping.NoFile.{NoFile}
use Rattle.cmh_console.specs.declared.keeping.NoFile.TheVariants.{Disk, Memory}
use Rattle.cmh_play3.specs.Play.{Answered, IsWorldOf, PlayedTo, as_fault}
use Rattle.cmh_play3.specs.PlayStates.{PlayState}
use Rattle.cmh_play3.specs.World.{World}
use Rattle.cmh_topology3.specs.Topology.{sites_of}
use Rattle.cmh_play3.specs.Kept.{KeepsEach}

-- the fault of journals that are not kept
abbrev pub fault_of_file : NoFile → Fault
fault_of_file Disk = faults.OutFile
fault_of_file Memory = faults.Memory

-- nothing is known of the files of a folder
abbrev pub HasNoFile : NoFile → Type 0
HasNoFile refused = ⊤

-- The lines of a script were answered, where the reader tells its bytes: at status 0 all of them, which was flushed, and
-- nothing else was written; else a fault is named, of the script or of the folder.
pub record PlaysInto {R W E : Type 0} (was read : Reading R) (old new : Writing W) (err_old err_new : Writing E) (status : ℕ) : Type 0 where
  pub answered : IfSome was.left (λ bytes. Answered bytes old.written new.written new.has_failed status)
  pub flushed : status ≡ 0 → new.is_flushed ≡ true
  pub silent : status ≡ 0 → err_new ≡ err_old
  pub fault : status ≢ 0
      → NamesFault as_fault (IsDialogueFault was.left read.has_failed new.has_failed) status err_old err_new
      ⊎ NamesFault fault_of_file HasNoFile status err_old err_new

-- the journals of the state's world were kept, each site's of its own
pub record KeepsWorld {K : Type 0} (Keeps : K → ℕ → List ℕ → K → Type 0) (state : PlayState) (old new : K) : Type 0 where
  pub world : World
  pub stands : IsWorldOf state world
  pub kept : KeepsEach Keeps world.events (sites_of world.topology) old new

-- all lines of a script were answered, and the journals of the world to which they lead were kept
pub record PlaysAndKeeps {K : Type 0} (Keeps : K → ℕ → List ℕ → K → Type 0) (bytes : List ℕ) (out_old out_new : Option (List ℕ))
    (old new : K) : Type 0 where
  pub state : PlayState
  pub played : PlayedTo bytes out_old out_new state
  pub keeps : KeepsWorld Keeps state old new
