use Rattle.std.proofs.Common.{◌≡◌, ℕ, ◌-◌, length, drop, slice_index_or, None}
use Rattle.cmh_frames.specs.Topology.{home_in}
use Rattle.cmh_topology3.proofs.topology.homes_of.Given as goal

-- the homes of the processes of the later rows
abbrev pub invariant-loop-later : goal.invariant-loop-later
invariant-loop-later l = (p : ℕ) → slice_index_or l.homes.items p None ≡ home_in (drop (length l.rows - l.later) l.rows) p
