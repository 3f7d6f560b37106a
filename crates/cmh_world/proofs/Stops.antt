-- A run that is stopped at each site.
use Rattle.std.proofs.Common.{◌≡◌, ◌≤◌, ℕ, true, false, List, [], ◌==◌, ap, ◌∙◌, inl, inr, length, take, arith}
use Rattle.std.specs.List.{list_any}
use Rattle.std.proofs.Math.Seq.{take-nil}
use Rattle.std.proofs.lemmas.Bool.{cases_Bool}
use Rattle.cmh_runs.proofs.Journals.{receipts_of-beginning}
use Rattle.cmh_runs.proofs.Stops as runs
use Rattle.cmh_frames.specs.Entries.{WorldEvent}
use Rattle.cmh_frames.specs.Topology.{Topology}
use Rattle.cmh_frames.specs.Journals.{frame_from, rules_of, receipts_of, sendings_of}
use Rattle.cmh_frames.specs.Runs.{IsBeginningOf, IsRun, ComeFromRun, entries_of, receipts, sendings}
use Rattle.cmh_frames.specs.Stops.{IsConsistent, stopped}
use Rattle.cmh_frames.proofs.Beginnings.{beginning_refl, beginning_take, beginning_trans, length-beginning}

-- a consistent stop comes from a run
pub stops_anywhere : (t : Topology) (events : List WorldEvent) → IsRun t events → (stop : ℕ → ℕ) → IsConsistent stop events → ComeFromRun t (stopped stop events)
stops_anywhere t = runs.stops_anywhere frame_from (rules_of t)

-- where only some sites have entries, a stop that is consistent between these is consistent
pub consistent_between : (t : Topology) (events : List WorldEvent) → IsRun t events → (stop : ℕ → ℕ) (sites : List ℕ)
    → ((s : ℕ) → list_any (λ q. q == s) sites ≡ false → entries_of s events ≡ [])
    → ((a b : ℕ) → list_any (λ q. q == a) sites ≡ true → list_any (λ q. q == b) sites ≡ true
    → length (receipts_of a (stopped stop events b)) ≤ length (sendings_of b (stopped stop events a)))
    → IsConsistent stop events
consistent_between t events run stop sites silent between a b = elim (cases_Bool (list_any (λ q. q == b) sites)) [
  | inr far ↦
      let none : stopped stop events b ≡ [] = ap (take (stop b)) (silent b far) ∙ take-nil (stop b) in
      let few = ap (λ es. length (receipts_of a es)) none in
      omega (arith, few)
  | inl there ↦ elim (cases_Bool (list_any (λ q. q == a) sites)) [
    | inl here ↦ between a b here there
    | inr far ↦
        let got : IsBeginningOf (receipts_of a (stopped stop events b)) (sendings a b events) =
        beginning_trans _ (receipts a b events) _ (receipts_of-beginning frame_from a _ _ (beginning_take (stop b) (entries_of b events))) (run.in_order events (beginning_refl events) a b) in
        let few = length-beginning _ _ got in
        let none = ap (λ es. length (sendings_of b es)) (silent a far) in
        omega (arith, few, none)
  ]
]
