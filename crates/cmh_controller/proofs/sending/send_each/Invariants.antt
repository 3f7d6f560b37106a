use Rattle.std.proofs.Common.{◌≡◌, ◌+◌, ◌-◌, ◌≤◌, ◌++◌, map, take, length}
use Rattle.std.specs.Vec.{vec_len, vec_capacity}
use Rattle.cmh_controller.specs.Destinations.{addressed}
use Rattle.cmh_controller.proofs.sending.send_each.Given as goal

-- the frames so far were added, and there is room for the others
abbrev pub invariant-loop-frame : goal.invariant-loop-frame
invariant-loop-frame l = record {
  so_far : l.sent.items ≡ l.fn.sent.items ++ map (addressed l.topology) (take l.frame-index l.frames);
  room : vec_len l.sent + (length l.frames - l.frame-index) ≤ vec_capacity l.sent;
}
