-- What the auditor answers.
use Rattle.std.specs.Prelude.{◌≡◌, ℕ, ◌+◌, ◌*◌, ◌≤◌, ◌↔◌, List, [], ◌∷◌, length, Result, Ok, Err, IsOk, IfOk, IfErr}
use Rattle.std.specs.List.Sorted.{IsStrictlyIncreasing, IsStrictlySortedBy}
use Rattle.cmh_frames.specs.Relation.{pair_cmp}
use Rattle.cmh_frames.specs.Topology.{Topology}
use Rattle.cmh_frames.specs.Entries.{WorldEvent}
use Rattle.cmh_frames.specs.Runs.{ComeFromRun, ComesFrom, IsRun}
use Rattle.cmh_audit.specs.declared.verdict.Verdict.{Verdict}
use Rattle.cmh_audit.specs.declared.verdict.Verdict.TheVariants.{Accepted, Refused}
use Rattle.cmh_audit.specs.Reports.{Report, Reports}
use Rattle.cmh_journal.specs.Journal.{Journal}
use Rattle.cmh_audit.specs.Journals.{journal_of, entry_count}
use Rattle.cmh_audit.specs.Stops.{Stops, before_stop, AreStops}
use Rattle.cmh_audit.specs.Sums.{in_entries}
use Rattle.cmh_audit.specs.Transit.{sent_count}

-- the report of journals that were accepted, or else the stops
abbrev pub as_result : Verdict → Result Report Stops
as_result (Accepted report) = Ok report
as_result (Refused stops) = Err stops

abbrev pub IsAccepted : Verdict → Type 0
IsAccepted verdict = IsOk (as_result verdict)

abbrev pub tries_of : Verdict → ℕ
tries_of (Accepted report) = report.tries
tries_of (Refused stops) = stops.tries

-- how many entries of the journals stand before the stops
abbrev pub entries_before : List (ℕ × ℕ) → List Journal → ℕ
entries_before stops [] = 0
entries_before stops (j ∷ journals) = length (before_stop stops j.site j.entries) + entries_before stops journals

-- the looks that can't be left out: at each entry that is taken, and at each entry at which a site stops
abbrev pub looks_due : List Journal → Verdict → ℕ
looks_due journals (Accepted report) = entry_count journals
looks_due journals (Refused stops) = entries_before stops.rows journals + length stops.rows

-- how many frames the entries before the stops sent
abbrev pub sent_before : List (ℕ × ℕ) → List Journal → ℕ
sent_before stops [] = 0
sent_before stops (j ∷ journals) =
    in_entries sent_count (before_stop stops j.site j.entries) + sent_before stops journals

-- a look more for each frame that an entry sent that was taken: it may be that for which a site is looked at again
abbrev pub looks_caused : List Journal → Verdict → ℕ
looks_caused journals (Accepted report) = looks_due journals (Accepted report) + sent_before [] journals
looks_caused journals (Refused stops) = looks_due journals (Refused stops) + sent_before stops.rows journals

-- ---- the whole verdict

-- the verdict is the auditor's: accepted exactly where the journals come from one run;
-- the report holds of every such run
pub record IsVerdictOn (t : Topology) (journals : List Journal) (verdict : Verdict) : Type 0 where
  pub accepted : IsAccepted verdict ↔ ComeFromRun t (journal_of journals)
  pub report : IfOk (as_result verdict) (λ report. (events : List WorldEvent) → IsRun t events
      → ComesFrom (journal_of journals) events → Reports t events report)
  pub order : IfOk (as_result verdict) (λ report. IsStrictlySortedBy pair_cmp report.waits
      × IsStrictlyIncreasing report.declared)
  pub counted : IfOk (as_result verdict) (λ report. report.events ≡ entry_count journals)
  pub stops : IfErr (as_result verdict) (λ stops. AreStops t journals stops.rows)
  pub tries : tries_of verdict ≤ (entry_count journals + 1) * length journals
