-- What the auditor reports of accepted journals.
use Rattle.std.specs.Prelude.{◌≡◌, ℕ, ◌↔◌, true, List, ◌==◌, Contains, Option, option_map, MatchOption}
use Rattle.std.specs.List.{find, zip}
use Rattle.std.specs.List.Sorted.{IsStrictlyIncreasing, IsStrictlySortedBy}
use Rattle.cmh_frames.specs.Topology.{Topology}
use Rattle.cmh_frames.specs.Entries.{WorldEvent}
use Rattle.cmh_frames.specs.Relation.{pair_cmp}
use Rattle.cmh_frames.specs.Runs.{IsDrained}
use Rattle.cmh_frames.specs.Settling.{under_way_in_all}
use Rattle.cmh_frames.specs.Waits.{Waits, IsDeclared}
use Rattle.cmh_cycles.specs.Cycles.{IsFirstCycleOf}

pub record Report : Type 0 where
  pub events : ℕ
  pub waits : List (ℕ × ℕ)  -- each asker with each holder
  pub declared : List ℕ
  pub cycles : List (List ℕ)  -- one for each declared process
  pub in_transit : ℕ
  pub tries : ℕ

-- the report's cycle through a process: that beside the process; none where it isn't declared
abbrev pub cycle_of : Report → ℕ → Option (List ℕ)
cycle_of report i = option_map (λ (row : ℕ × List ℕ). row.1)
    (find (λ (row : ℕ × List ℕ). row.0 == i) (zip report.declared report.cycles))

-- What a report says of a run, of which it has the number of events besides: the waits at its end, the processes that were
-- declared, of the cycles of waits through each of these the first, and how many frames are under way.
pub record Reports (t : Topology) (events : List WorldEvent) (report : Report) : Type 0 where
  pub waits : (j k : ℕ) → Contains report.waits (j, k) ↔ Waits events j k
  pub declared : (i : ℕ) → Contains report.declared i ↔ IsDeclared events i
  pub cycles : (i : ℕ) → MatchOption (cycle_of report i) (IsDeclared events i → ⊥)
      (λ members. IsDeclared events i × IsFirstCycleOf (Waits events) i members)
  pub in_transit : report.in_transit ≡ under_way_in_all (λ frame. true) t events
  pub drained : (report.in_transit ≡ 0) ↔ IsDrained events

-- the lists of a report ascend
abbrev pub IsInOrder : Report → Type 0
IsInOrder report = IsStrictlySortedBy pair_cmp report.waits × IsStrictlyIncreasing report.declared
