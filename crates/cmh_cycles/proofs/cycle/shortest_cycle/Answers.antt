use Rattle.std.proofs.Common.{◌≡◌, ℕ, ◌+◌, ◌/◌, ◌<◌, List, Option, Vec, length, get_or, sym, subst, subst₂}
use Rattle.std.specs.Global.{Global}
use Rattle.std.specs.Prelude.{Contains, IfSome, IfNone}
use Rattle.cmh_cycles.specs.FoundCycles.{IsCycleIn}
use Rattle.cmh_cycles.specs.Cycles.{ComesFirst}
use Rattle.cmh_cycles.specs.Graphs.{WaitsAt}
use Rattle.cmh_cycles.specs.Inner.Levels.{LeadBack}
use Rattle.cmh_cycles.specs.Rows.{row_at}
use Rattle.cmh_cycles.proofs.CycleLemmas.{first_to, on_cycle_waits, none_to}
use Rattle.cmh_cycles.proofs.cycle.shortest_cycle.Goals as goal
use Rattle.cmh_frames.specs.Paths.{IsCycleOf}

-- a process without a place is on no cycle
pub returns-in_default-clause-none : goal.returns-in_default-clause-none
returns-in_default-clause-none c = λ other cycle.
    let g = c.args.graph.now in
    subst (λ (ps : List ℕ). Contains ps c.args.of → ⊥) c.deref.ensures.value c.in_default.ensures (on_cycle_waits g.waits.items g.processes.items c.requires.processes c.args.of other cycle)

-- nor is one whose place is on none
pub returns-in_default-2-clause-none : goal.returns-in_default-2-clause-none
returns-in_default-2-clause-none c = λ other cycle.
    let g = c.args.graph.now in
    let R : ℕ → ℕ → Type 0 = λ a b. WaitsAt g.processes.items g.waits.items a b in
    let at = subst (λ (xs : List ℕ). (c.in-Some.place < length xs) × (get_or xs c.in-Some.place 0 ≡ c.args.of)) c.deref.ensures.value c.in-Some.ensures in
    let N : Option (Vec (List ℕ) Global) → Type 0 = λ o. IfNone o ((places : List ℕ) → IsCycleOf R c.in-Some.place places → ⊥) in
    none_to g.waits.items g.processes.items c.requires.processes c.in-Some.place at.0 (subst N c.in_default-2.is c.in_ok-levels.ensures.none) other (subst (λ i. IsCycleIn g.waits.items i other) (sym at.1) cycle)

pub walk-requires-clause-place : goal.walk-requires-clause-place
walk-requires-clause-place c = (subst (λ (xs : List ℕ). (c.in-Some.place < length xs) × (get_or xs c.in-Some.place 0 ≡ c.args.of)) c.deref.ensures.value c.in-Some.ensures).0

pub walk-requires-clause-back : goal.walk-requires-clause-back
walk-requires-clause-back c =
    let g = c.args.graph.now in
    let R : ℕ → ℕ → Type 0 = λ a b. WaitsAt g.processes.items g.waits.items a b in
    let S : Option (Vec (List ℕ) Global) → Type 0 = λ o. IfSome o (λ levels. LeadBack R c.in-Some.place levels.items) in
    subst (LeadBack R c.in-Some.place) (sym c.deref-2.ensures.value) (subst S c.in-Some-2.is c.in_ok-levels.ensures.some)

pub walk-requires-clause-words : goal.walk-requires-clause-words
walk-requires-clause-words c =
    let n = length c.args.graph.now.processes.items in
    let S : Option (Vec (List ℕ) Global) → Type 0 = λ o. IfSome o (λ levels. (d : ℕ) → d < length levels.items → length (row_at levels.items d) ≡ n / 64 + 1) in
    subst (λ (ls : List (List ℕ)). (d : ℕ) → d < length ls → length (row_at ls d) ≡ n / 64 + 1) (sym c.deref-2.ensures.value) (subst S c.in-Some-2.is c.in_ok-levels.ensures.words)

pub returns-clause-cycle : goal.returns-clause-cycle
returns-clause-cycle c =
    let g = c.args.graph.now in
    let at = subst (λ (xs : List ℕ). (c.in-Some.place < length xs) × (get_or xs c.in-Some.place 0 ≡ c.args.of)) c.deref.ensures.value c.in-Some.ensures in
    let walked = c.in_ok-members.ensures in
    let first = first_to g.waits.items g.processes.items c.requires.processes c.in-Some.place walked.0 at.0 walked.2 in
    subst₂ (IsCycleIn g.waits.items) at.1 (sym walked.1) first.cycle

pub returns-clause-first : goal.returns-clause-first
returns-clause-first c =
    let g = c.args.graph.now in
    let at = subst (λ (xs : List ℕ). (c.in-Some.place < length xs) × (get_or xs c.in-Some.place 0 ≡ c.args.of)) c.deref.ensures.value c.in-Some.ensures in
    let walked = c.in_ok-members.ensures in
    let first = first_to g.waits.items g.processes.items c.requires.processes c.in-Some.place walked.0 at.0 walked.2 in
    let F : ℕ → List ℕ → Type 0 = λ i ms. (other : List ℕ) → IsCycleIn g.waits.items i other → ComesFirst ms other in
    subst₂ F at.1 (sym walked.1) first.first
