-- The records that are kept of journals which an audit accepted.
use Rattle.std.specs.Prelude.{◌≡◌, ◌⊎◌, ℕ, MatchBool, List, [], ◌∷◌, map}
use Rattle.std.specs.List.{AllZip}
use Rattle.cmh_long_audit3.specs.Audits.{IsAccepted}
use Rattle.cmh_long_audit3.specs.Parts.{IsPartAccepted}
use Rattle.cmh_long_audit3.specs.declared.part.EpochRange.{EpochRange}
use Rattle.cmh_archive3.specs.Archive.{is_closed}
use Rattle.cmh_archive3.specs.Names.{record_text}
use Rattle.cmh_archive3.specs.Summaries.{IsSummaryOf}
use Rattle.cmh_archive3.specs.declared.summary.Summary.{Summary}

-- an audit accepted the files of journals: all of their epochs, or some
abbrev pub WereAccepted : List (List (List ℕ)) → Type 0
WereAccepted files =
    ((topology : List ℕ) × IsAccepted topology files)
    ⊎ ((topology : List ℕ) × (range : EpochRange) × IsPartAccepted topology range files)

-- the summaries of the segments in these files
abbrev pub AreSummaries : List (List ℕ) → List Summary → Type 0
AreSummaries files segments = AllZip (λ file segment. IsSummaryOf segment file) files segments

-- the newest epoch of a journal, whose segments are in order
abbrev pub last_epoch : List Summary → ℕ
last_epoch [] = 0
last_epoch (segment ∷ []) = segment.header.epoch
last_epoch (segment ∷ next ∷ later) = last_epoch (next ∷ later)

-- the record of a segment was kept, if that is closed
abbrev pub KeepsOne : {K : Type 0} → (K → List ℕ → ℕ → List ℕ → K → Type 0) → List ℕ → List ℕ → Summary → K → K → Type 0
KeepsOne Keeps newest folder segment old new =
    MatchBool (is_closed newest segment.header.epoch)
    (Keeps old folder segment.header.epoch (record_text segment.mark) new)
    (new ≡ old)

-- so it was of each segment of a journal
abbrev pub KeepsJournal : {K : Type 0} → (K → List ℕ → ℕ → List ℕ → K → Type 0) → List ℕ → List ℕ → List Summary → K → K → Type 0
KeepsJournal Keeps newest folder [] old new = new ≡ old
KeepsJournal {K} Keeps newest folder (segment ∷ later) old new =
    (next : K) × KeepsOne Keeps newest folder segment old next × KeepsJournal Keeps newest folder later next new

-- and of each journal, in the folder at its path
abbrev pub KeepsEach : {K : Type 0} → (K → List ℕ → ℕ → List ℕ → K → Type 0) → List ℕ → List (List ℕ) → List (List Summary) → K → K → Type 0
KeepsEach Keeps newest [] [] old new = new ≡ old
KeepsEach {K} Keeps newest (path ∷ paths) (journal ∷ journals) old new =
    (next : K) × KeepsJournal Keeps newest path journal old next × KeepsEach Keeps newest paths journals next new
KeepsEach Keeps newest paths journals old new = ⊥

-- of the journals in these files
pub record KeepsAll {K : Type 0} (Keeps : K → List ℕ → ℕ → List ℕ → K → Type 0) (paths : List (List ℕ))
    (files : List (List (List ℕ))) (old new : K) : Type 0 where
  pub journals : List (List Summary)
  pub read : AllZip AreSummaries files journals
  pub keeps : KeepsEach Keeps (map last_epoch journals) paths journals old new
