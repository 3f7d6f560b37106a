-- An audit with a run from which the journals come.
use Rattle.std.specs.Prelude.{◌≡◌, ℕ, ◌+◌, true, ◌⊎◌, List, [], ◌++◌, Option, None, Some}
use Rattle.std.specs.List.{flat_map}
use Rattle.std.specs.Io.KnownBytes.{Appends}
use Rattle.cmh_frames.specs.Topology.{Topology}
use Rattle.cmh_frames.specs.Entries.{WorldEvent}
use Rattle.cmh_journal.specs.Journal.{Journal}
use Rattle.cmh_audit.specs.declared.step.Step.{Step}
use Rattle.cmh_audit.specs.declared.verdict.Verdict.{Verdict}
use Rattle.cmh_audit.specs.declared.verdict.Verdict.TheVariants.{Accepted, Refused}
use Rattle.cmh_audit.specs.Runs.{IsRunOf, event_at}
use Rattle.cmh_files.specs.RunLines.{run_line_text}
use Rattle.cmh_console.specs.Device.{Writing}
use Rattle.cmh_files.specs.AuditTexts.{cuts_text, verdict_text}
use Rattle.cmh_files.specs.Audits.{Audits, IsCause, status_of}
use Rattle.cmh_console.specs.Faults.{NamesFault}
use Rattle.cmh_files.specs.AuditFaults.{as_fault}

-- ---- the lines

abbrev pub event_line : ℕ → Option WorldEvent → List ℕ
event_line number None = []
event_line number (Some event) = run_line_text event.site number event.entry

-- the line of the entry at a place, with its number in its journal, from 1; nothing where none stands there
abbrev pub step_text : List Journal → Step → List ℕ
step_text journals step = event_line (step.entry + 1) (event_at journals step)

-- a line for each step
abbrev pub run_text : List Journal → List Step → List ℕ
run_text journals steps = flat_map (step_text journals) steps

-- ---- the command

-- the steps that are told after a verdict on these journals: those of a run from which they come; none where they
-- come from none
abbrev pub AreStepsToTell : Topology → List Journal → Verdict → List Step → Type 0
AreStepsToTell t journals (Accepted report) steps = IsRunOf t journals steps
AreStepsToTell t journals (Refused stops) steps = steps ≡ []

-- the status is that of an audit whose lines were written, and a line for each of these steps after them
pub record WroteRun (topology : List ℕ) (files : List (List ℕ)) (old new : Option (List ℕ))
    (status : ℕ) : Type 0 where
  pub world : Topology
  pub journals : List Journal
  pub cuts : List (ℕ × ℕ)
  pub verdict : Verdict
  pub audits : Audits topology files world journals cuts verdict
  pub status_is : status ≡ status_of verdict
  pub steps : List Step
  pub are_steps : AreStepsToTell world journals verdict steps
  pub wrote : Appends old new (cuts_text cuts ++ verdict_text world.edition verdict ++ run_text journals steps)

-- an audit wrote its lines with the run, flushed, and nothing else, or named why it couldn't
abbrev pub RunEnds : {W E : Type 0} → List ℕ → List (List ℕ) → Writing W → Writing W → Writing E → Writing E → ℕ → Type 0
RunEnds topology files old new err_old err_new status =
    (WroteRun topology files old.written new.written status × (new.is_flushed ≡ true) × (err_new ≡ err_old))
    ⊎ NamesFault as_fault (IsCause topology files old.written new.written new.has_failed) status err_old err_new
