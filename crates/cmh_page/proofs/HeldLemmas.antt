-- What is told of journals.
use Rattle.std.proofs.Common.{◌≡◌, ℕ, suc, ◌+◌, ◌<◌, ◌≤◌, List, [], ◌∷◌, ◌++◌, length, take, get_or, refl, sym, ap, ◌∙◌, subst, arith, append_assoc, append-nil}
use Rattle.std.proofs.lemmas.List.{take_more, length-take-le}
use Rattle.cmh_frames.specs.Entries.{Entry}
use Rattle.cmh_frames.specs.Topology.{Topology}
use Rattle.cmh_frames.specs.Journals.{IsLawful}
use Rattle.cmh_frames.specs.Runs.{ComeFromRun}
use Rattle.cmh_journal.specs.Journal.{Journal}
use Rattle.cmh_audit.specs.Verdicts.{IsVerdictOn}
use Rattle.cmh_audit.specs.declared.step.Step.{Step}
use Rattle.cmh_audit.specs.declared.verdict.Verdict.{Verdict}
use Rattle.cmh_audit.specs.declared.verdict.Verdict.TheVariants.{Accepted, Refused}
use Rattle.cmh_files.specs.Reasons.{held_before}
use Rattle.cmh_page.specs.Held.{first_steps, steps_before, stops_in}

-- what comes from a run is lawful at each site
pub held_lawful : (t : Topology) (held : ℕ → List Entry) (s : ℕ) → ComeFromRun t held → IsLawful t s (held s)
held_lawful t held s come = subst (IsLawful t s) (come.2 s) (come.1.lawful s)

-- the entries before the stops of a verdict come from a run
pub come_before : (t : Topology) (journals : List Journal) (verdict : Verdict) → IsVerdictOn t journals verdict
    → ComeFromRun t (held_before journals (stops_in verdict))
come_before t journals (Accepted report) is = is.accepted.0 refl
come_before t journals (Refused stops) is = is.stops.comes

-- ---- steps

pub first_steps_more : (place n : ℕ)
    → first_steps place n ++ record { journal = place; entry = n } ∷ [] ≡ first_steps place (n + 1)
first_steps_more place n =
    let next : suc n ≡ n + 1 = omega arith in
    ap (first_steps place) next

module _ (stops : List (ℕ × ℕ)) (all : List Journal) where
  abbrev count : Journal → ℕ
  count j = length (held_before all stops j.site)

  append : (place : ℕ) (js : List Journal) (j : Journal)
      → steps_before stops all place (js ++ j ∷ []) ≡ steps_before stops all place js ++ first_steps (place + length js) (count j)
  append place [] j =
      let same : place ≡ place + 0 = omega arith in
      append-nil (first_steps place (count j)) ∙ ap (λ p. first_steps p (count j)) same
  append place (x ∷ js) j =
      let same : (place + 1) + length js ≡ place + length (x ∷ js) = omega arith in
      ap (λ l. first_steps place (count x) ++ l) (append (place + 1) js j ∙ ap (λ p. steps_before stops all (place + 1) js ++ first_steps p (count j)) same)
      ∙ sym (append_assoc (first_steps place (count x)) (steps_before stops all (place + 1) js) (first_steps (place + length (x ∷ js)) (count j)))

  -- what a loop over the journals has after one more turn
  pub steps_more : (js : List Journal) (i : ℕ) (j : Journal) → i < length js → j ≡ get_or js i j
      → steps_before stops all 0 (take i js) ++ first_steps i (count j) ≡ steps_before stops all 0 (take (i + 1) js)
  steps_more js i j within is =
      let within_too : i ≤ length js = omega arith in
      let long : length (take i js) ≡ i = length-take-le i js within_too in
      let place : i ≡ 0 + length (take i js) = omega arith in
      ap (λ p. steps_before stops all 0 (take i js) ++ first_steps p (count j)) place
      ∙ sym (append 0 (take i js) j)
      ∙ ap (steps_before stops all 0) (ap (λ y. take i js ++ y ∷ []) is ∙ sym (take_more js i j within))

pub told_before : (listed journals : List Journal) (stops : List (ℕ × ℕ)) (steps : List Step) → listed ≡ journals
    → steps ≡ steps_before stops listed 0 listed → steps ≡ steps_before stops journals 0 journals
told_before listed journals stops steps same are =
    are ∙ ap (λ (js : List Journal). steps_before stops js 0 js) same
