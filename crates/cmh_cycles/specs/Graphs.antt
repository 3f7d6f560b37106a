-- Waits as tables of rows, over the places of the processes that wait.
use Rattle.std.specs.Prelude.{◌≡◌, ℕ, ◌+◌, ◌/◌, ◌<◌, List, length, slice_index, Contains}
use Rattle.std.specs.List.Sorted.{IsStrictlyIncreasing}
use Rattle.cmh_cycles.specs.Rows.{AreTwins, IsTable}
use Rattle.cmh_cycles.specs.declared.graph.Graph.{Graph}

-- the process at one place waits for that at another
abbrev pub WaitsAt : List ℕ → List (ℕ × ℕ) → ℕ → ℕ → Type 0
WaitsAt processes waits a b =
    (a < length processes) × (b < length processes)
    × Contains waits (slice_index processes a, slice_index processes b)

-- all askers are among the processes, which ascend
pub record AreAskers (waits : List (ℕ × ℕ)) (processes : List ℕ) : Type 0 where
  pub ascending : IsStrictlyIncreasing processes
  pub all : (j k : ℕ) → Contains waits (j, k) → Contains processes j

-- at each place the rows have the places of its holders, and of its askers; twins have the same askers
pub record IsGraph (graph : Graph) (waits : List (ℕ × ℕ)) : Type 0 where
  pub waits_are : graph.waits.items ≡ waits
  pub processes : AreAskers waits graph.processes.items
  pub holders : IsTable graph.holders.items (length graph.processes.items) (length graph.processes.items / 64 + 1)
      (λ a b. WaitsAt graph.processes.items waits a b)
  pub askers : IsTable graph.askers.items (length graph.processes.items) (length graph.processes.items / 64 + 1)
      (λ b a. WaitsAt graph.processes.items waits a b)
  pub twins : AreTwins graph.askers.items graph.twins.items
