use Rattle.std.proofs.Common.{◌≡◌, ◌+◌, ◌-◌, ◌≤◌, ◌++◌, map, take, length}
use Rattle.std.specs.Vec.{vec_len, vec_capacity}
use Rattle.cmh_frames.specs.declared.frame.Frame.TheVariants.{Probe}
use Rattle.cmh_rules.proofs.edges.push_probes.Given as goal

-- the probes to the targets so far are there, and there is room for the others
abbrev pub invariant-loop-to : goal.invariant-loop-to
invariant-loop-to l = record {
  so_far : l.frames.items ≡ l.fn.frames.items ++ map (λ to. Probe (l.origin, l.from, to)) (take l.to-index l.targets);
  room : vec_len l.frames + (length l.targets - l.to-index) ≤ vec_capacity l.frames;
}
