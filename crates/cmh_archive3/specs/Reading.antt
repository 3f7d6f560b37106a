-- The segments in the folders of journals, as they are read. Where the inputs tell their files, they are those at the paths.
use Rattle.std.specs.Prelude.{◌≡◌, ◌≢◌, ◌⊎◌, ℕ, ◌<◌, Bool, MatchBool, List, [], ◌∷◌, Option, Some}
use Rattle.cmh_inputs.specs.Reading.{HasNoJournal, IsReadAt}
use Rattle.cmh_inputs.specs.Stored.{Stored}
use Rattle.cmh_segment3.specs.declared.head.Header.{Header}
use Rattle.cmh_archive3.specs.Names.{record_path, record_text, segment_path}
use Rattle.cmh_archive3.specs.Summaries.{IsSummaryOf}
use Rattle.cmh_archive3.specs.declared.summary.Folder.{Folder}
use Rattle.cmh_archive3.specs.declared.summary.Listed.{Listed}
use Rattle.cmh_archive3.specs.declared.summary.Summary.{Summary}

-- the file holds just these bytes, or anything else, or is not there
abbrev pub IsFileAt : Stored → List ℕ → List ℕ → Bool → Type 0
IsFileAt stored path bytes is = MatchBool is (stored.files path ≡ Some bytes) (stored.files path ≢ Some bytes)

-- A segment was audited: the record beside it says that an audit accepted it with its very mark.
abbrev pub IsRecordedAt : Stored → List ℕ → Summary → Bool → Type 0
IsRecordedAt stored folder summary is_audited =
    IsFileAt stored (record_path folder summary.header.epoch) (record_text summary.mark) is_audited

-- the segment whose file has these bytes, in a folder
pub record IsListed (told : Option Stored) (folder bytes : List ℕ) (segment : Listed) : Type 0 where
  pub summary : IsSummaryOf segment.summary bytes
  pub audited : (stored : Stored) → told ≡ Some stored → IsRecordedAt stored folder segment.summary segment.is_audited

-- the segment in the file at a path, in a folder
pub record IsListedAt (told : Option Stored) (folder path : List ℕ) (segment : Listed) : Type 0 where
  pub bytes : List ℕ
  pub read : (stored : Stored) → told ≡ Some stored → IsReadAt stored path bytes
  pub listed : IsListed told folder bytes segment

-- the segment can be the one before the one with this header: a whole one of this site and world, of the epoch that is said
pub record Precedes (summary : Summary) (next : Header) : Type 0 where
  pub whole : summary.tail ≡ 0
  pub world : summary.header.world ≡ next.world
  pub site : summary.header.site ≡ next.site
  pub epoch : summary.header.epoch ≡ next.before
  pub earlier : summary.header.epoch < next.epoch

-- the segment before the one with this header
pub record IsBeforeAt (told : Option Stored) (folder : List ℕ) (next : Header) (segment : Listed) : Type 0 where
  pub precedes : Precedes segment.summary next
  pub there : IsListedAt told folder (segment_path folder next.before) segment

-- nothing is there that can be read
abbrev pub EndsAt : Option Stored → List ℕ → Header → Type 0
EndsAt told folder next = (stored : Stored) → told ≡ Some stored → HasNoJournal stored (segment_path folder next.before)

-- the segments before the one with this header, the last one first: back to the first one, or to where none is there any more
abbrev pub AreBefore : Option Stored → List ℕ → Header → List Listed → Type 0
AreBefore told folder next [] = (next.epoch ≡ 0) ⊎ EndsAt told folder next
AreBefore told folder next (last ∷ earlier) =
    IsBeforeAt told folder next last × AreBefore told folder last.summary.header earlier

-- the segments in the folder at a path
pub record IsFolderAt (told : Option Stored) (path : List ℕ) (folder : Folder) : Type 0 where
  pub newest : IsListedAt told path path folder.newest
  pub earlier : AreBefore told path folder.newest.summary.header folder.earlier.items
