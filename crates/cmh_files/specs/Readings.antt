-- Files of journals that were read twice, while their sites ran, and what is kept of them.
use Rattle.std.specs.Prelude.{◌≡◌, ℕ, ◌<◌, ◌≤◌, List, [], length, take, slice_index_or}
use Rattle.cmh_frames.specs.Runs.{IsBeginningOf}
use Rattle.cmh_journal.specs.File.{IsFileOf, file_spelling}
use Rattle.cmh_journal.specs.Journal.{Journal}
use Rattle.cmh_journal.specs.declared.tail.Tail.{Tail}
use Rattle.cmh_files.specs.Stops.{IsLowest, NoneIsConsistent, Stop, journal_at, length_at}

abbrev pub file_at : List (List ℕ) → ℕ → List ℕ
file_at files i = slice_index_or files i []

-- the file was first that of a journal with so many entries, grew, and is that of this journal
pub record IsReadTwice (first second : List ℕ) (before : ℕ) (journal : Journal) : Type 0 where
  pub earlier : Journal
  pub first_tail : Tail
  pub second_tail : Tail
  pub first_is : IsFileOf earlier first_tail first
  pub second_is : IsFileOf journal second_tail second
  pub grew : IsBeginningOf first second
  pub before_is : before ≡ length earlier.entries
  pub within : before ≤ length journal.entries

-- the same of each file
pub record AreReadTwice (first second : List (List ℕ)) (before : Stop) (journals : List Journal) : Type 0 where
  pub firsts : length first ≡ length second
  pub lengths : length before ≡ length second
  pub each : length journals ≡ length second
  pub read : (i : ℕ) → i < length second
      → IsReadTwice (file_at first i) (file_at second i) (length_at before i) (journal_at journals i)

-- What is kept of a file: all that was read first, where the stop keeps no entry more; else the entries that it keeps.
pub record Keeps (first : List ℕ) (before stop : ℕ) (journal : Journal) (bytes : List ℕ) : Type 0 where
  pub same : stop ≡ before → bytes ≡ first
  pub raised : before < stop → bytes ≡ file_spelling journal.edition journal.site (take stop journal.entries)

-- so many bytes of each second file are those that the lowest consistent stop keeps
pub record IsStopOf (first second : List (List ℕ)) (lengths : List ℕ) : Type 0 where
  pub before : Stop
  pub journals : List Journal
  pub stop : Stop
  pub read : AreReadTwice first second before journals
  pub lowest : IsLowest before journals stop
  pub each : length lengths ≡ length second
  pub keeps : (i : ℕ) → i < length second
      → Keeps (file_at first i) (length_at before i) (length_at stop i) (journal_at journals i)
      (take (length_at lengths i) (file_at second i))

-- some file is no journal's or did not grow from the first to the second, or no stop of the journals is consistent
abbrev pub HaveNoStop : List (List ℕ) → List (List ℕ) → Type 0
HaveNoStop first second =
    (before : Stop) (journals : List Journal) → AreReadTwice first second before journals
    → NoneIsConsistent before journals
