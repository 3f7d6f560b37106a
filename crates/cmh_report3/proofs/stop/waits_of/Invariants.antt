use Rattle.std.proofs.Common.{◌≡◌, ℕ, false, drop}
use Rattle.cmh_model3.specs.Waits.{wait_after}
use Rattle.cmh_report3.specs.Inner.Pairs.{has_pair}
use Rattle.cmh_report3.proofs.stop.waits_of.Given as goal

abbrev pub invariant-loop-event : goal.invariant-loop-event
invariant-loop-event l =
    (j k : ℕ) → wait_after (has_pair l.waits j k) j k (drop l.event-index l.events) ≡ wait_after false j k l.events
