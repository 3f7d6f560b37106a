use Rattle.std.proofs.Common.{◌≡◌, ℕ, ◌<◌, ◌≤◌, length}
use Rattle.cmh_inputs.specs.BetweenReads.{count_at, segment_at}
use Rattle.cmh_inputs.specs.Inner.Taken.{before_stops}
use Rattle.cmh_inputs.proofs.span.taken_before.Given as goal

abbrev pub invariant-loop-i : goal.invariant-loop-i
invariant-loop-i l = record {
  each : length l.taken.items ≡ l.i;
  taken_is : (k : ℕ) → k < l.i → count_at l.taken.items k ≡ before_stops l.stops (segment_at l.read.segments.items k);
  has : (k : ℕ) → k < l.i → count_at l.read.before.items k ≤ count_at l.taken.items k;
}
