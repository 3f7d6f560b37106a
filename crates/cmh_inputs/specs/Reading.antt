-- What is read of a file.
use Rattle.std.specs.Prelude.{◌≡◌, ◌≢◌, ℕ, ◌<◌, ◌⊎◌, List, Some, length}
use Rattle.cmh_frames.specs.Runs.{IsBeginningOf}
use Rattle.cmh_journal.specs.File.{IsFault}
use Rattle.cmh_journal.specs.declared.journal.JournalFault.{JournalFault}
use Rattle.cmh_journal.specs.declared.journal.JournalFault.TheVariants.{Memory}
use Rattle.cmh_inputs.specs.Editions.{BeginsSegment}
use Rattle.cmh_inputs.specs.Stored.{Stored}
use Rattle.cmh_inputs.specs.declared.reading.TheConstants.{LONGEST_SEGMENT}

-- the bytes are no journal of edition 1 or 2, and this is their first fault
pub record HaveFault (fault : JournalFault) (bytes : List ℕ) : Type 0 where
  pub first : IsFault bytes fault
  pub named : fault ≢ Memory

-- A beginning of the file was read, since that shows what is wrong with all of it: it is no segment, and its first fault
-- as a journal is that of what was read.
pub record IsRefusedBy (file bytes : List ℕ) : Type 0 where
  pub begins : IsBeginningOf bytes file
  pub fault : JournalFault
  pub read : HaveFault fault bytes
  pub whole : HaveFault fault file
  pub no_segment : ¬ BeginsSegment file

-- all of the file was read, or what shows that it is no journal
abbrev pub IsReadOf : List ℕ → List ℕ → Type 0
IsReadOf file bytes = (bytes ≡ file) ⊎ IsRefusedBy file bytes

-- the file is a segment that is too long to be read
pub record IsTooLong (file : List ℕ) : Type 0 where
  pub segment : BeginsSegment file
  pub longer : LONGEST_SEGMENT < length file

-- so was the file of the journal at the path
pub record IsReadAt (stored : Stored) (path bytes : List ℕ) : Type 0 where
  pub file : List ℕ
  pub held : stored.journals path ≡ Some file
  pub read : IsReadOf file bytes

-- at the path is no file of at most so many bytes
abbrev pub HasNoFile : Stored → List ℕ → ℕ → Type 0
HasNoFile stored path most = (file : List ℕ) → stored.files path ≡ Some file → most < length file

-- at the path is no journal that can be read
abbrev pub HasNoJournal : Stored → List ℕ → Type 0
HasNoJournal stored path = (file : List ℕ) → stored.journals path ≡ Some file → IsTooLong file
