-- An audit with the reasons for its stops.
use Rattle.std.specs.Prelude.{◌≡◌, ℕ, true, ◌⊎◌, List, [], ◌++◌, Option}
use Rattle.std.specs.Io.KnownBytes.{Appends}
use Rattle.cmh_frames.specs.Topology.{Topology}
use Rattle.cmh_journal.specs.Journal.{Journal}
use Rattle.cmh_audit.specs.declared.verdict.Verdict.{Verdict}
use Rattle.cmh_audit.specs.declared.verdict.Verdict.TheVariants.{Accepted, Refused}
use Rattle.cmh_console.specs.Device.{Writing}
use Rattle.cmh_files.specs.AuditTexts.{cuts_text, verdict_text}
use Rattle.cmh_files.specs.Audits.{Audits, IsCause, status_of}
use Rattle.cmh_console.specs.Faults.{NamesFault}
use Rattle.cmh_files.specs.AuditFaults.{as_fault}
use Rattle.cmh_files.specs.ReasonLines.{AreReasonLines}

-- after a verdict on these journals: a line for each stop, with its reason
abbrev pub AreReasons : Topology → List Journal → Verdict → List ℕ → Type 0
AreReasons t journals (Accepted report) text = text ≡ []
AreReasons t journals (Refused stops) text = AreReasonLines t journals stops.rows stops.rows text

-- the status is that of an audit whose lines were written, and its reasons after them
pub record WroteExplained (topology : List ℕ) (files : List (List ℕ)) (old new : Option (List ℕ))
    (status : ℕ) : Type 0 where
  pub world : Topology
  pub journals : List Journal
  pub cuts : List (ℕ × ℕ)
  pub verdict : Verdict
  pub audits : Audits topology files world journals cuts verdict
  pub status_is : status ≡ status_of verdict
  pub reasons : List ℕ
  pub are_reasons : AreReasons world journals verdict reasons
  pub wrote : Appends old new (cuts_text cuts ++ verdict_text world.edition verdict ++ reasons)

-- an audit wrote its lines with the reasons, flushed, and nothing else, or named why it couldn't
abbrev pub ExplainEnds : {W E : Type 0} → List ℕ → List (List ℕ) → Writing W → Writing W → Writing E → Writing E → ℕ → Type 0
ExplainEnds topology files old new err_old err_new status =
    (WroteExplained topology files old.written new.written status × (new.is_flushed ≡ true) × (err_new ≡ err_old))
    ⊎ NamesFault as_fault (IsCause topology files old.written new.written new.has_failed) status err_old err_new
