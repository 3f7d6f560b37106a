-- The files of an audit, as they are read at the paths of a command line.
use Rattle.std.specs.Prelude.{◌≡◌, ℕ, ◌-◌, ◌<◌, ◌≤◌, ◌⊎◌, ⊤, List, [], length, take, slice_index_or, Option, Some}
use Rattle.cmh_files.specs.Readings.{HaveNoStop, IsStopOf, file_at}
use Rattle.cmh_files.specs.Stops.{length_at}
use Rattle.cmh_inputs.specs.Reading.{HasNoFile, HasNoJournal, IsReadAt}
use Rattle.cmh_inputs.specs.Stored.{Stored}
use Rattle.cmh_inputs.specs.declared.reading.TheConstants.{LONGEST_TOPOLOGY}
use Rattle.cmh_inputs.specs.declared.file_fault.FileFault.{FileFault}
use Rattle.cmh_inputs.specs.declared.file_fault.FileFault.TheVariants.{Topology, Journal, Memory}

abbrev pub path_at : List (List ℕ) → ℕ → List ℕ
path_at paths i = slice_index_or paths i []

-- the bytes were read of the journals at the paths, in their order
pub record AreJournalsAt (stored : Stored) (paths files : List (List ℕ)) : Type 0 where
  pub count : length files ≡ length paths
  pub each : (i : ℕ) → i < length paths → IsReadAt stored (path_at paths i) (file_at files i)

-- where the files are told, the bytes are those of the topology file at its path and of the journals at theirs
pub record AreFilesAt (stored : Stored) (topology_path : List ℕ) (paths : List (List ℕ)) (topology : List ℕ)
    (files : List (List ℕ)) : Type 0 where
  pub topology_is : stored.files topology_path ≡ Some topology
  pub journals : AreJournalsAt stored paths files

abbrev pub AreNamed : Option Stored → List ℕ → List (List ℕ) → List ℕ → List (List ℕ) → Type 0
AreNamed told topology_path paths topology files =
    (stored : Stored) → told ≡ Some stored → AreFilesAt stored topology_path paths topology files

-- the same of journals alone
abbrev pub AreNamedJournals : Option Stored → List (List ℕ) → List (List ℕ) → Type 0
AreNamedJournals told paths files = (stored : Stored) → told ≡ Some stored → AreJournalsAt stored paths files

-- a journal can't be read that is at this place among the paths, from 1; where the files are told, none is there
pub record IsUnreadJournal (told : Option Stored) (paths : List (List ℕ)) (place : ℕ) : Type 0 where
  pub first : 1 ≤ place
  pub last : place ≤ length paths
  pub unread : (stored : Stored) → told ≡ Some stored → HasNoJournal stored (path_at paths (place - 1))

-- why journals can't be read
abbrev pub AreUnread : Option Stored → List (List ℕ) → FileFault → Type 0
AreUnread told paths (Journal place) = IsUnreadJournal told paths place
AreUnread told paths Memory = ⊤
AreUnread told paths fault = ⊥

-- why the files of an audit can't be read
abbrev pub AreUnnamed : Option Stored → List ℕ → List (List ℕ) → FileFault → Type 0
AreUnnamed told topology_path paths Topology =
    (stored : Stored) → told ≡ Some stored → HasNoFile stored topology_path LONGEST_TOPOLOGY
AreUnnamed told topology_path paths fault = AreUnread told paths fault

-- ---- files that grow

-- so many bytes of each file
pub record AreCutTo (lengths : List ℕ) (files kept : List (List ℕ)) : Type 0 where
  pub count : length kept ≡ length files
  pub each : (i : ℕ) → i < length files → file_at kept i ≡ take (length_at lengths i) (file_at files i)

-- What is kept of files that were all read twice: what was read second, cut at the lowest consistent stop that keeps what was
-- read first. Where there is none, what was read first.
abbrev pub AreKeptOf : List (List ℕ) → List (List ℕ) → List (List ℕ) → Type 0
AreKeptOf first second kept =
    ((lengths : List ℕ) × IsStopOf first second lengths × AreCutTo lengths second kept)
    ⊎ (HaveNoStop first second × (kept ≡ first))
