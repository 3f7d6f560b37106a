-- What commands over files come to.
use Rattle.std.specs.Prelude.{◌≡◌, ℕ, ◌⊎◌, List, codes, Option, None, Some}
use Rattle.clap.specs.Matches.{one_text}
use Rattle.clap.specs.declared.parser.matches.Found.{Found}
use Rattle.cmh_console.specs.Device.{Writing}
use Rattle.cmh_console.specs.Faults.{NamesFault}
use Rattle.cmh_console.specs.TopologyFile3.{SaysNoWorld}
use Rattle.cmh_inputs.specs.Editions.{BeginWithSegment, SaysSomeWorld}
use Rattle.cmh_inputs.specs.FileFaults.{IsUnread, as_fault}
use Rattle.cmh_inputs.specs.Readings.{AreNamed, AreNamedJournals, AreUnnamed, AreUnread}
use Rattle.cmh_inputs.specs.Stored.{Stored}
use Rattle.cmh_commands.specs.Later.{LongEnds, OneBeginsLater}
use Rattle.cmh_commands.specs.Paths.{journal_paths, shown_paths, topology_path}
use Rattle.cmh_files.specs.Audits.{AuditEnds}
use Rattle.cmh_files.specs.Explains.{ExplainEnds}
use Rattle.cmh_files.specs.RunAudits.{RunEnds}
use Rattle.cmh_files.specs.Shows.{ShowEnds}
use Rattle.cmh_files3.specs.More.{MoreEnds}
use Rattle.cmh_files3.specs.Shows as edition3_shows
use Rattle.cmh_files3.specs.declared.more.More.{More}
use Rattle.cmh_files3.specs.declared.more.More.TheVariants.{Nothing, Reasons, Run, Declarations}

-- an option without a value that is not given
abbrev pub IsUnset : Option (List ℕ) → Type 0
IsUnset told = (told ≡ None) ⊎ (told ≡ Some (codes "false"))

-- what an audit is asked to tell after its report: the first of three options that is given, or nothing
abbrev pub AsksFor : Found → More → Type 0
AsksFor found Nothing =
    IsUnset (one_text found (codes "why")) × IsUnset (one_text found (codes "run"))
    × IsUnset (one_text found (codes "declarations"))
AsksFor found Reasons = one_text found (codes "why") ≡ Some (codes "true")
AsksFor found Run = IsUnset (one_text found (codes "why")) × (one_text found (codes "run") ≡ Some (codes "true"))
AsksFor found Declarations =
    IsUnset (one_text found (codes "why")) × IsUnset (one_text found (codes "run"))
    × (one_text found (codes "declarations") ≡ Some (codes "true"))

-- ---- the files that are named

-- A command ended so over the bytes of a topology file and of journals. Where the files are told, they are those at the
-- paths that the words name. Or nothing is written, and the fault of one of them that could not be read is named.
abbrev pub EndsOver : {W E : Type 0} → Option Stored → Found → (List ℕ → List (List ℕ) → Type 0) → Writing W → Writing W → Writing E → Writing E → ℕ → Type 0
EndsOver told found Ends old new err_old err_new status =
    ((topology : List ℕ) × (files : List (List ℕ)) × AreNamed told (topology_path found) (journal_paths found) topology files
    × Ends topology files)
    ⊎ ((new ≡ old) × NamesFault as_fault (AreUnnamed told (topology_path found) (journal_paths found)) status err_old err_new)

-- ---- audits

-- the audit of these files as files of editions 1 and 2, with what it is asked to tell; only edition 3 tells declarations
abbrev pub AuditEndsInOlder : {W E : Type 0} → More → List ℕ → List (List ℕ) → Writing W → Writing W → Writing E → Writing E → ℕ → Type 0
AuditEndsInOlder Nothing topology files old new err_old err_new status =
    AuditEnds topology files old new err_old err_new status
AuditEndsInOlder Reasons topology files old new err_old err_new status =
    ExplainEnds topology files old new err_old err_new status
AuditEndsInOlder Run topology files old new err_old err_new status =
    RunEnds topology files old new err_old err_new status
AuditEndsInOlder Declarations topology files old new err_old err_new status =
    MoreEnds Declarations topology files old new err_old err_new status

-- The audit of these files: of edition 3 where the topology file says a world of it, else of editions 1 and 2. Where one of
-- them is of a later epoch, it is one over several epochs.
abbrev pub AuditEndsByEdition : {W E : Type 0} → More → List ℕ → List (List ℕ) → Writing W → Writing W → Writing E → Writing E → ℕ → Type 0
AuditEndsByEdition more topology files old new err_old err_new status =
    (SaysSomeWorld topology × MoreEnds more topology files old new err_old err_new status)
    ⊎ (SaysNoWorld topology × AuditEndsInOlder more topology files old new err_old err_new status)
    ⊎ (SaysSomeWorld topology × OneBeginsLater files × LongEnds topology status)

-- the files that are named were audited
abbrev pub AuditsNamed : {W E : Type 0} → More → Option Stored → Found → Writing W → Writing W → Writing E → Writing E → ℕ → Type 0
AuditsNamed more told found old new err_old err_new status =
    EndsOver told found (λ topology files. AuditEndsByEdition more topology files old new err_old err_new status) old new err_old err_new status

-- some files were audited, or nothing is written and the fault of one that could not be read is named
abbrev pub AuditsFiles : {W E : Type 0} → More → Writing W → Writing W → Writing E → Writing E → ℕ → Type 0
AuditsFiles more old new err_old err_new status =
    ((topology : List ℕ) × (files : List (List ℕ)) × AuditEndsByEdition more topology files old new err_old err_new status)
    ⊎ ((new ≡ old) × NamesFault as_fault IsUnread status err_old err_new)

-- the lines of these files: of edition 3 where the first one begins as a segment of it, else of editions 1 and 2
abbrev pub ShowEndsByEdition : {W E : Type 0} → List (List ℕ) → Writing W → Writing W → Writing E → Writing E → ℕ → Type 0
ShowEndsByEdition files old new err_old err_new status =
    (BeginWithSegment files × edition3_shows.ShowEnds files old new err_old err_new status)
    ⊎ (¬ BeginWithSegment files × ShowEnds files old new err_old err_new status)

-- The lines of the journals that are named, or of their segments of the epoch that is; or nothing is written, and the fault of
-- one of them that could not be read is named.
abbrev pub ShowsNamed : {W E : Type 0} → Option Stored → Found → Option ℕ → Writing W → Writing W → Writing E → Writing E → ℕ → Type 0
ShowsNamed told found epoch old new err_old err_new status =
    ((files : List (List ℕ)) × AreNamedJournals told (shown_paths epoch (journal_paths found)) files
    × ShowEndsByEdition files old new err_old err_new status)
    ⊎ ((new ≡ old) × NamesFault as_fault (AreUnread told (shown_paths epoch (journal_paths found))) status err_old err_new)

-- the same of the lines of some journals
abbrev pub ShowsFiles : {W E : Type 0} → Writing W → Writing W → Writing E → Writing E → ℕ → Type 0
ShowsFiles old new err_old err_new status =
    ((files : List (List ℕ)) × ShowEndsByEdition files old new err_old err_new status)
    ⊎ ((new ≡ old) × NamesFault as_fault IsUnread status err_old err_new)
