use Rattle.std.proofs.Common.{◌≡◌, ◌-◌, ◌^◌, length, min, take}
use Rattle.cmh_frames.specs.Journals.{frames_to}
use Rattle.cmh_cluster.proofs.settling.frames_for.Given as goal

-- those so far
abbrev pub invariant-loop-to : goal.invariant-loop-to
invariant-loop-to l = l.count ≡ min (length (frames_to l.site (take l.to-index l.frames))) (2 ^ 64 - 1)
