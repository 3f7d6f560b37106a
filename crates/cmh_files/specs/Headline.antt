-- The headline: what a verdict on files says of the world whose sites wrote them.
use Rattle.std.specs.Prelude.{◌≡◌, ℕ, ◌≤◌, true, ◌↔◌, List, [], length, ◌==◌, IfOk}
use Rattle.std.specs.List.{AllZip}
use Rattle.cmh_frames.specs.Edition.{starts_at_ask}
use Rattle.cmh_frames.specs.Topology.{Topology, is_site}
use Rattle.cmh_frames.specs.Entries.{Entry, WorldEvent}
use Rattle.cmh_frames.specs.Laws.{bit, count_of}
use Rattle.cmh_frames.specs.Runs.{IsBeginningOf, IsRun, entries_of}
use Rattle.cmh_frames.specs.Stops.{stopped, IsConsistent}
use Rattle.cmh_frames.specs.Waits.{IsDeclared, OnCycle}
use Rattle.cmh_frames.specs.LastAsker.{LastAskerDeclared}
use Rattle.cmh_journal.specs.File.{Writes}
use Rattle.cmh_audit.specs.Reports.{Reports}
use Rattle.cmh_audit.specs.Verdicts.{IsAccepted, as_result}
use Rattle.cmh_audit.specs.declared.verdict.Verdict.{Verdict}

-- ---- whose files they are

-- In whatever order they stand, each is of a site of the topology, and each site has just one.
pub record AreOneForEachSite {X : Type 0} (t : Topology) (IsOf : ℕ → X → Type 0) (things : List X) : Type 0 where
  pub sites : List ℕ
  pub once : (s : ℕ) → count_of (λ q. q == s) sites ≡ bit (is_site t s)
  pub each : AllZip IsOf sites things

-- The files of all sites are those of journals with these entries, given by site number, and a tail after them or none.
abbrev pub FilesHold : Topology → (ℕ → List Entry) → List (List ℕ) → Type 0
FilesHold t journals files =
    AreOneForEachSite t (λ s bytes. (tail : List ℕ) × Writes t.edition s (journals s) tail bytes) files

-- they hold what the run has of each site
abbrev pub AreFilesOfRun : Topology → List WorldEvent → List (List ℕ) → Type 0
AreFilesOfRun t events files = FilesHold t (λ s. entries_of s events) files

-- Each is what is left of such a file that was cut off somewhere: a beginning of it, with its header at least.
abbrev pub AreCutFilesOf : Topology → List WorldEvent → List (List ℕ) → Type 0
AreCutFilesOf t events files = AreOneForEachSite t
    (λ s bytes. (file : List ℕ) × Writes t.edition s (entries_of s events) [] file
    × IsBeginningOf bytes file × (7 ≤ length bytes)) files

-- ---- the headline

-- What the verdict on the files of all sites says.
pub record Headline (t : Topology) (files : List (List ℕ)) (verdict : Verdict) : Type 0 where
  -- accepted exactly where the files are those of a run
  pub accepted : IsAccepted verdict ↔ ((events : List WorldEvent) × IsRun t events × AreFilesOfRun t events files)
  -- in every such run each declared process lies on a cycle of waits at the end
  pub no_false_deadlock : (events : List WorldEvent) → IsRun t events → AreFilesOfRun t events files
      → (i : ℕ) → IsDeclared events i → OnCycle events i
  -- and the report is true
  pub report : IfOk (as_result verdict) (λ report. (events : List WorldEvent) → IsRun t events
      → AreFilesOfRun t events files → Reports t events report)
  -- in edition 2, if no frame is in transit, the process of each cycle that asked last is declared
  pub no_silent_deadlock : starts_at_ask t.edition ≡ true → IfOk (as_result verdict) (λ report. report.in_transit ≡ 0
      → (events : List WorldEvent) → IsRun t events → AreFilesOfRun t events files → LastAskerDeclared events)
  -- files of a consistent stop of a run are accepted
  pub stops : (events : List WorldEvent) (stop : ℕ → ℕ) → IsRun t events → IsConsistent stop events
      → FilesHold t (stopped stop events) files → IsAccepted verdict
  -- and files that were cut off, each wherever it was, are those of a stop
  pub cut_anywhere : (events : List WorldEvent) → IsRun t events → AreCutFilesOf t events files
      → (stop : ℕ → ℕ) × FilesHold t (stopped stop events) files
