-- Files that are no journals.
use Rattle.std.specs.Prelude.{ℕ, ◌<◌, List, length}
use Rattle.cmh_journal.specs.declared.journal.JournalFault.{JournalFault}
use Rattle.cmh_files.specs.Readings.{file_at}
use Rattle.cmh_inputs.specs.Editions.{BeginsSegment}
use Rattle.cmh_inputs.specs.Reading.{HaveFault}

-- the bytes are no journal of any edition
pub record AreNoJournal (bytes : List ℕ) : Type 0 where
  pub fault : JournalFault
  pub has : HaveFault fault bytes
  pub no_segment : ¬ BeginsSegment bytes

-- one of the files is no journal of any edition
pub record OneIsFaulty (files : List (List ℕ)) : Type 0 where
  pub place : ℕ
  pub inside : place < length files
  pub none : AreNoJournal (file_at files place)
