-- A run, one entry longer.
use Rattle.std.proofs.Common.{◌≡◌, ℕ, List, [], ◌∷◌, ◌++◌, sym, ap, ◌∙◌, subst, if◌then◌else◌, inl, inr}
use Rattle.std.proofs.lemmas.Bool.{cases_eq, eq-eqb, ne_eqb}
use Rattle.cmh_runs.proofs.Growing as runs
use Rattle.cmh_frames.specs.declared.frame.Frame.{Frame}
use Rattle.cmh_frames.specs.Topology.{Topology}
use Rattle.cmh_frames.specs.declared.event.Event.{Event}
use Rattle.cmh_frames.specs.declared.event.Event.TheVariants.{Ask, Reply, Start, Got}
use Rattle.cmh_frames.specs.Entries.{Entry, WorldEvent}
use Rattle.cmh_frames.specs.State.{State}
use Rattle.cmh_frames.specs.Rules.{Accepts, Sends}
use Rattle.cmh_frames.specs.Journals.{state_after, LawfulFrom, frame_from, rules_of}
use Rattle.cmh_frames.specs.Runs.{state_of, under_way, IsBeginningOf, IsRun}
use Rattle.cmh_frames.proofs.Beginnings.{beginning_nil}

-- a lawful journal with one more entry that the rules give
pub lawful_more : (t : Topology) (s : ℕ) (v : State) (xs : List Entry) (e : Entry) → LawfulFrom t s v xs → Accepts t s (state_after t s v xs) e.event → Sends t s (state_after t s v xs) e.event e.sent e.declared → LawfulFrom t s v (xs ++ e ∷ [])
lawful_more t s = runs.lawful_more (rules_of t s)

-- the empty list is a run
pub run_first : (t : Topology) → IsRun t []
run_first t = runs.run_first frame_from (rules_of t)

-- a run with one more entry that the rules give, whose frame, if it gets one, is the next of its link
pub run_longer : (t : Topology) (before : List WorldEvent) (e : WorldEvent) → IsRun t before → Accepts t e.site (state_of t e.site before) e.entry.event
    → Sends t e.site (state_of t e.site before) e.entry.event e.entry.sent e.entry.declared
    → ((a : ℕ) → IsBeginningOf (frame_from a e.entry.event) (under_way a e.site before)) → IsRun t (before ++ e ∷ [])
run_longer t = runs.run_longer frame_from (rules_of t)

-- what an event gets is the next frame of its link
abbrev pub IsNext : List WorldEvent → ℕ → Event → Type 0
IsNext before s (Ask asker targets) = Unit {0}
IsNext before s (Reply holder asker) = Unit {0}
IsNext before s (Start i) = Unit {0}
IsNext before s (Got from frame) = (rest : List Frame) × (under_way from s before ≡ frame ∷ rest)

-- what an event gets begins what is under way
next_on : (before : List WorldEvent) (s : ℕ) (event : Event) (a : ℕ) → IsNext before s event → IsBeginningOf (frame_from a event) (under_way a s before)
next_on before s (Ask asker targets) a next = beginning_nil _
next_on before s (Reply holder asker) a next = beginning_nil _
next_on before s (Start i) a next = beginning_nil _
next_on before s (Got from frame) a next = elim (cases_eq from a) [
  | inl same ↦ (next.0, ap (λ z. (if z then frame ∷ [] else []) ++ next.0) (eq-eqb from a same) ∙ sym next.1 ∙ ap (λ z. under_way z s before) same)
  | inr other ↦ subst (λ z. IsBeginningOf (if z then frame ∷ [] else []) (under_way a s before)) (sym (ne_eqb from a other)) (beginning_nil _)
]

-- the same, where what it got is told
pub run_more : (t : Topology) (before : List WorldEvent) (e : WorldEvent) → IsRun t before → Accepts t e.site (state_of t e.site before) e.entry.event
    → Sends t e.site (state_of t e.site before) e.entry.event e.entry.sent e.entry.declared → IsNext before e.site e.entry.event → IsRun t (before ++ e ∷ [])
run_more t before e run accepted sends next = run_longer t before e run accepted sends (λ a. next_on before e.site e.entry.event a next)
