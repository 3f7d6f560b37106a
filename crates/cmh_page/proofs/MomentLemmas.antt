-- The lines of a run, one moment after the other.
use Rattle.std.proofs.Common.{◌≡◌, ℕ, ◌+◌, ◌<◌, List, ◌++◌, Option, None, Some, Vec, map, length, take, get_or, sym, ap, ◌∙◌, append-nil}
use Rattle.std.proofs.lemmas.List.{get_or_default}
use Rattle.std.proofs.lemmas.Option.{slice_get-map}
use Rattle.std.specs.Global.{Global}
use Rattle.std.specs.Prelude.{option_and_then, option_map, slice_get}
use Rattle.cmh_frames.proofs.ListLemmas.{texts_written}
use Rattle.cmh_frames.specs.Entries.{Entry, WorldEvent}
use Rattle.cmh_journal.specs.Journal.{Journal}
use Rattle.cmh_audit.specs.declared.step.Step.{Step}
use Rattle.cmh_audit.specs.Runs.{event_at}
use Rattle.cmh_page.specs.declared.fate.Fate.{Fate}
use Rattle.cmh_page.specs.Moments.{fate_at, moment_text, moments_text, step_text, told_text}

module _ (journals : List Journal) (fates : List (List (Option Fate))) (steps : List Step) (i : ℕ) (d : Step) (within : i < length steps) where
  abbrev step : Step
  step = get_or steps i d

  abbrev so_far : List ℕ
  so_far = moments_text journals fates (take i steps)

  next : so_far ++ step_text journals fates step ≡ moments_text journals fates (take (i + 1) steps)
  next = texts_written (step_text journals fates) steps i step within (get_or_default steps i d step within)

  -- what a loop has written after one more moment
  pub moment_more : (site number : ℕ) (entry : Entry) (fate : Option Fate) → number ≡ step.entry + 1
      → event_at journals step ≡ Some (record { site = site; entry = entry }) → fate ≡ fate_at fates step
      → moments_text journals fates (take i steps) ++ moment_text site number entry fate ≡ moments_text journals fates (take (i + 1) steps)
  moment_more site number entry fate numbered is fated =
      ap (λ (n : ℕ). so_far ++ moment_text site n entry fate) numbered
      ∙ ap (λ (f : Option Fate). so_far ++ moment_text site (step.entry + 1) entry f) fated
      ∙ ap (λ (o : Option WorldEvent). so_far ++ told_text (step.entry + 1) o (fate_at fates step)) (sym is)
      ∙ next

  -- and where no entry stands at the place
  pub moment_none : event_at journals step ≡ None
      → moments_text journals fates (take i steps) ≡ moments_text journals fates (take (i + 1) steps)
  moment_none none =
      sym (append-nil so_far)
      ∙ ap (λ (o : Option WorldEvent). so_far ++ told_text (step.entry + 1) o (fate_at fates step)) (sym none)
      ∙ next

-- ---- the table of fates

module _ (rows : List (Vec (Option Fate) Global)) (step : Step) where
  abbrev items : Vec (Option Fate) Global → List (Option Fate)
  items row = row.items

  abbrev of_row : Option (List (Option Fate)) → Option Fate
  of_row found = option_and_then (λ (fate : Option Fate). fate) (option_and_then (λ (row : List (Option Fate)). slice_get row step.entry) found)

  pub no_row : slice_get rows step.journal ≡ None → None ≡ fate_at (map (λ row. row.items) rows) step
  no_row none = sym (ap of_row (slice_get-map items rows step.journal ∙ ap (option_map items) none))

  pub no_fate : (row : Vec (Option Fate) Global) → slice_get rows step.journal ≡ Some row → slice_get row.items step.entry ≡ None
      → None ≡ fate_at (map (λ row. row.items) rows) step
  no_fate row is none = sym (ap of_row (slice_get-map items rows step.journal ∙ ap (option_map items) is)
      ∙ ap (option_and_then (λ (fate : Option Fate). fate)) none)

  pub found_fate : (row : Vec (Option Fate) Global) (fate : Option Fate) → slice_get rows step.journal ≡ Some row
      → slice_get row.items step.entry ≡ Some fate → fate ≡ fate_at (map (λ row. row.items) rows) step
  found_fate row fate is stands = sym (ap of_row (slice_get-map items rows step.journal ∙ ap (option_map items) is)
      ∙ ap (option_and_then (λ (fate : Option Fate). fate)) stands)
