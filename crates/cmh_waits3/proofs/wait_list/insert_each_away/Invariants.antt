use Rattle.std.proofs.Common.{◌+◌, ◌-◌, ◌≤◌, length, take}
use Rattle.std.specs.Vec.{vec_capacity, vec_len}
use Rattle.cmh_waits3.specs.Inner.Away.{AreInsertedAway}
use Rattle.cmh_waits3.proofs.wait_list.insert_each_away.Given as goal

-- of the targets so far those of other sites were added, and there is room for the others
abbrev pub invariant-loop-target : goal.invariant-loop-target
invariant-loop-target l = record {
  are : AreInsertedAway l.members (take l.target-index l.targets) l.since l.fn.waits.items l.waits.items;
  room : vec_len l.waits + (length l.targets - l.target-index) ≤ vec_capacity l.waits;
}
