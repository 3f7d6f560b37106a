-- Why two readings of the files of running sites are enough.
use Rattle.std.specs.Prelude.{ℕ, List, [], ◌∷◌, take, map}
use Rattle.cmh_frames.specs.declared.edition.Edition.{Edition}
use Rattle.cmh_frames.specs.Entries.{Entry, WorldEvent}
use Rattle.cmh_frames.specs.Topology.{Topology}
use Rattle.cmh_frames.specs.Runs.{ComeFromRun, IsBeginningOf, entries_of}
use Rattle.cmh_frames.specs.Stops.{IsConsistent, stopped}
use Rattle.cmh_journal.specs.File.{Writes}
use Rattle.cmh_audit.specs.Verdicts.{IsAccepted}
use Rattle.cmh_audit.specs.declared.verdict.Verdict.{Verdict}
use Rattle.cmh_files.specs.Headline.{AreOneForEachSite, FilesHold, Headline}
use Rattle.cmh_files.specs.Readings.{HaveNoStop, IsStopOf}

-- The file of a site was read twice, and the site's journal had these entries between the two readings: what was read
-- first is a beginning of them, and they are a beginning of what was read second.
pub record WasReadAround (edition : Edition) (s : ℕ) (entries : List Entry) (read : List ℕ × List ℕ) : Type 0 where
  pub earlier : List Entry
  pub first_tail : List ℕ
  pub first : Writes edition s earlier first_tail read.0
  pub later : List Entry
  pub second_tail : List ℕ
  pub second : Writes edition s later second_tail read.1
  pub grew : IsBeginningOf read.0 read.1
  pub before : IsBeginningOf earlier entries
  pub after : IsBeginningOf entries later

-- so was the file of each site, and between its readings the journal was what the list has of the site
abbrev pub WereReadAround : Topology → List WorldEvent → List (List ℕ × List ℕ) → Type 0
WereReadAround t events reads =
    AreOneForEachSite t (λ s read. WasReadAround t.edition s (entries_of s events) read) reads

-- the files as they were read first, and second
abbrev pub first_files : List (List ℕ × List ℕ) → List (List ℕ)
first_files reads = map (λ (read : List ℕ × List ℕ). read.0) reads

abbrev pub second_files : List (List ℕ × List ℕ) → List (List ℕ)
second_files reads = map (λ (read : List ℕ × List ℕ). read.1) reads

-- so many bytes of each file
abbrev pub cut_to : List ℕ → List (List ℕ) → List (List ℕ)
cut_to [] files = []
cut_to (length ∷ lengths) [] = []
cut_to (length ∷ lengths) (file ∷ files) = take length file ∷ cut_to lengths files

-- The files hold what a run has of each site up to a consistent stop. So what they hold comes from a run, and an audit
-- of them accepts it.
pub record AreOfAStop (t : Topology) (events : List WorldEvent) (files : List (List ℕ)) : Type 0 where
  pub stop : ℕ → ℕ
  pub consistent : IsConsistent stop events
  pub hold : FilesHold t (stopped stop events) files
  pub comes : ComeFromRun t (stopped stop events)
  pub accepted : (verdict : Verdict) → Headline t files verdict → IsAccepted verdict

-- A stop is found, and the files that are cut there are those of a consistent stop of the run.
pub record AreEnough (t : Topology) (events : List WorldEvent) (reads : List (List ℕ × List ℕ)) : Type 0 where
  pub found : HaveNoStop (first_files reads) (second_files reads) → ⊥
  pub kept : (lengths : List ℕ) → IsStopOf (first_files reads) (second_files reads) lengths
      → AreOfAStop t events (cut_to lengths (second_files reads))
