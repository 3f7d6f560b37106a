use Rattle.std.proofs.Common.{◌≡◌, ℕ, take}
use Rattle.cmh_waits3.specs.Inner.Steps.{has_place}
use Rattle.cmh_waits3.proofs.Counted.{led_so_far}
use Rattle.cmh_waits3.proofs.search.led_by_each.Given as goal

-- the members to which those so far lead
abbrev pub invariant-loop-wait : goal.invariant-loop-wait
invariant-loop-wait l = (k : ℕ) → has_place l.led.words k ≡ led_so_far l.stamp l.origin l.asker l.waits.members (take l.wait-index l.row) k
