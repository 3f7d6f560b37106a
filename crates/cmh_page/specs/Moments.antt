-- The lines of a run: each entry, the waits that it begins or ends, and what becomes of the probe that it got.
use Rattle.std.specs.Prelude.{ℕ, ◌+◌, List, [], ◌++◌, codes, slice_get, option_and_then, Option, None, Some}
use Rattle.std.specs.Fmt.{decimal}
use Rattle.std.specs.List.{flat_map}
use Rattle.cmh_frames.specs.declared.event.Event.{Event}
use Rattle.cmh_frames.specs.declared.event.Event.TheVariants.{Ask, Reply}
use Rattle.cmh_frames.specs.Entries.{Entry, WorldEvent}
use Rattle.cmh_journal.specs.Journal.{Journal}
use Rattle.cmh_audit.specs.declared.step.Step.{Step}
use Rattle.cmh_audit.specs.Runs.{event_at}
use Rattle.cmh_files.specs.RunLines.{run_line_text}
use Rattle.cmh_page.specs.declared.fate.Fate.{Fate}
use Rattle.cmh_page.specs.declared.fate.Fate.TheVariants.{Acts, Active, Answered, Known}

-- ---- the waits: an ask begins those for its targets, and a reply ends that of the asker for the holder

abbrev pub begins_text : ℕ → ℕ → List ℕ
begins_text asker holder = codes "begins " ++ decimal asker ++ codes " " ++ decimal holder ++ codes "\n"

abbrev pub changes_text : Event → List ℕ
changes_text (Ask asker targets) = flat_map (begins_text asker) targets
changes_text (Reply holder asker) = codes "ends " ++ decimal asker ++ codes " " ++ decimal holder ++ codes "\n"
changes_text event = []

-- ---- probes

abbrev pub fate_word : Fate → List ℕ
fate_word Acts = codes "acts"
fate_word Active = codes "ignored active"
fate_word Answered = codes "ignored answered"
fate_word Known = codes "ignored known"

abbrev pub fate_text : Option Fate → List ℕ
fate_text None = []
fate_text (Some fate) = codes "probe " ++ fate_word fate ++ codes "\n"

-- ---- moments

abbrev pub moment_text : ℕ → ℕ → Entry → Option Fate → List ℕ
moment_text site number entry fate = run_line_text site number entry ++ changes_text entry.event ++ fate_text fate

-- the entry at a place with its number in its journal, from 1; nothing where none stands there
abbrev pub told_text : ℕ → Option WorldEvent → Option Fate → List ℕ
told_text number None fate = []
told_text number (Some event) fate = moment_text event.site number event.entry fate

-- of a table with a row for each journal
abbrev pub fate_at : List (List (Option Fate)) → Step → Option Fate
fate_at fates step = option_and_then (λ (found : Option Fate). found)
    (option_and_then (λ (row : List (Option Fate)). slice_get row step.entry) (slice_get fates step.journal))

abbrev pub step_text : List Journal → List (List (Option Fate)) → Step → List ℕ
step_text journals fates step = told_text (step.entry + 1) (event_at journals step) (fate_at fates step)

abbrev pub moments_text : List Journal → List (List (Option Fate)) → List Step → List ℕ
moments_text journals fates steps = flat_map (step_text journals fates) steps
