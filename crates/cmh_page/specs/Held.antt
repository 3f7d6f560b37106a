-- What a page tells of journals: a run from which they come, or how far they can be taken.
use Rattle.std.specs.Prelude.{◌≡◌, ℕ, zero, suc, ◌+◌, List, [], ◌∷◌, ◌++◌, length, map, Option}
use Rattle.cmh_frames.specs.Topology.{Topology}
use Rattle.cmh_journal.specs.Journal.{Journal}
use Rattle.cmh_audit.specs.Runs.{IsRunOf}
use Rattle.cmh_audit.specs.declared.step.Step.{Step}
use Rattle.cmh_audit.specs.declared.verdict.Verdict.{Verdict}
use Rattle.cmh_audit.specs.declared.verdict.Verdict.TheVariants.{Accepted, Refused}
use Rattle.cmh_files.specs.Reasons.{held_before}
use Rattle.cmh_page.specs.declared.fate.Fate.{Fate}
use Rattle.cmh_page.specs.Fates.{fates_of}

-- the stops of a verdict; none where the journals come from a run
abbrev pub stops_in : Verdict → List (ℕ × ℕ)
stops_in (Accepted report) = []
stops_in (Refused stops) = stops.rows

-- what becomes of the probes of each journal, up to the stop of its site
abbrev pub fates_before : Topology → List (ℕ × ℕ) → List Journal → List (List (Option Fate))
fates_before t stops journals =
    map (λ (j : Journal). fates_of t j.site (held_before journals stops j.site)) journals

-- ---- the entries before the stops, journal by journal

-- the first n of the journal at a place
abbrev pub first_steps : ℕ → ℕ → List Step
first_steps place zero = []
first_steps place (suc n) = first_steps place n ++ record { journal = place; entry = n } ∷ []

-- of these journals, the first of which is at this place of all
abbrev pub steps_before : List (ℕ × ℕ) → List Journal → ℕ → List Journal → List Step
steps_before stops all place [] = []
steps_before stops all place (j ∷ journals) =
    first_steps place (length (held_before all stops j.site)) ++ steps_before stops all (place + 1) journals

-- ---- what is told

-- the steps of a run from which the journals come; of journals that come from none all before their stops
abbrev pub AreToldSteps : Topology → List Journal → Verdict → List Step → Type 0
AreToldSteps t journals (Accepted report) steps = IsRunOf t journals steps
AreToldSteps t journals (Refused stops) steps = steps ≡ steps_before stops.rows journals 0 journals
