-- What a site finds when it looks along the waits that count for an ask.
use Rattle.std.specs.Prelude.{ℕ, List, Contains, ◌↔◌}
use Rattle.std.specs.List.Sorted.{IsStrictlySortedBy}
use Rattle.cmh_model3.specs.Lists.{pair_cmp}
use Rattle.cmh_model3.specs.State.{State}
use Rattle.cmh_model3.specs.Rules.{IsEdge}
use Rattle.cmh_waits3.specs.declared.search.Finding.{Finding}
use Rattle.cmh_waits3.specs.declared.search.Finding.TheVariants.{Deadlock, Edges}

-- the waits that count for the ask of i with stamp n and leave the site, of the processes that p reaches locally
pub record AreEdges (home : ℕ → ℕ) (s : ℕ) (v : State) (n i p : ℕ) (edges : List (ℕ × ℕ)) : Type 0 where
  pub ascending : IsStrictlySortedBy pair_cmp edges
  pub all : (edge : ℕ × ℕ) → Contains edges edge ↔ IsEdge home s v n i p edge

-- a deadlock, or else those waits
abbrev pub Finds : (ℕ → ℕ) → ℕ → State → ℕ → ℕ → ℕ → Type 0 → Finding → Type 0
Finds home s v n i p Deadlocked Deadlock = Deadlocked
Finds home s v n i p Deadlocked (Edges edges) = (Deadlocked → ⊥) × AreEdges home s v n i p edges.items
