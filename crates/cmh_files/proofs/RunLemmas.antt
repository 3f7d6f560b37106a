-- The lines of a run, one after the other.
use Rattle.std.proofs.Common.{◌≡◌, ℕ, ◌+◌, ◌<◌, List, ◌++◌, Option, None, Some, length, take, get_or, sym, ap, ◌∙◌, append-nil}
use Rattle.std.proofs.lemmas.List.{get_or_default}
use Rattle.cmh_frames.specs.Entries.{Entry, WorldEvent}
use Rattle.cmh_journal.specs.Journal.{Journal}
use Rattle.cmh_audit.specs.declared.step.Step.{Step}
use Rattle.cmh_audit.specs.Runs.{event_at}
use Rattle.cmh_files.specs.RunLines.{run_line_text}
use Rattle.cmh_frames.proofs.ListLemmas.{texts_written}
use Rattle.cmh_files.specs.RunAudits.{event_line, run_text, step_text}

module _ (journals : List Journal) (steps : List Step) (i : ℕ) (d : Step) (within : i < length steps) where
  next : run_text journals (take i steps) ++ step_text journals (get_or steps i d) ≡ run_text journals (take (i + 1) steps)
  next = texts_written (step_text journals) steps i (get_or steps i d) within (get_or_default steps i d (get_or steps i d) within)

  -- what a loop has written after one more line
  pub line_more : (site number : ℕ) (entry : Entry) → number ≡ (get_or steps i d).entry + 1 → event_at journals (get_or steps i d) ≡ Some (record { site = site; entry = entry }) →
      run_text journals (take i steps) ++ run_line_text site number entry ≡ run_text journals (take (i + 1) steps)
  line_more site number entry numbered is =
      ap (λ (n : ℕ). run_text journals (take i steps) ++ run_line_text site n entry) numbered
      ∙ ap (λ (o : Option WorldEvent). run_text journals (take i steps) ++ event_line ((get_or steps i d).entry + 1) o) (sym is)
      ∙ next

  -- and where there is none
  pub line_none : event_at journals (get_or steps i d) ≡ None → run_text journals (take i steps) ≡ run_text journals (take (i + 1) steps)
  line_none none =
      sym (append-nil (run_text journals (take i steps)))
      ∙ ap (λ (o : Option WorldEvent). run_text journals (take i steps) ++ event_line ((get_or steps i d).entry + 1) o) (sym none)
      ∙ next
