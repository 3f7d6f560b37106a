use Rattle.std.proofs.Common.{◌≡◌, ◌==◌, ℕ, take, slice_index_or, None, Some, if◌then◌else◌}
use Rattle.std.specs.List.{list_any}
use Rattle.cmh_topology3.proofs.topology.put_homes.Given as goal

-- those so far are written
abbrev pub invariant-loop-process : goal.invariant-loop-process
invariant-loop-process l = (p : ℕ) → slice_index_or l.homes.items p None
    ≡ if list_any (λ q. q == p) (take l.process-index l.processes) then Some l.site else slice_index_or l.fn.homes.items p None
