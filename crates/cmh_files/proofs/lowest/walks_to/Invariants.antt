use Rattle.std.proofs.Common.{◌≡◌, ℕ, ◌<◌, length}
use Rattle.cmh_files.specs.Inner.Steps.{StandsAt, walk_at}
use Rattle.cmh_files.specs.Stops.{journal_at, length_at}
use Rattle.cmh_files.proofs.lowest.walks_to.Given as goal

abbrev pub invariant-loop-i : goal.invariant-loop-i
invariant-loop-i l = record {
  each : length l.walks.items ≡ l.i;
  at : (k : ℕ) → k < l.i → StandsAt (journal_at l.journals k) (length_at l.lengths k) (walk_at l.walks.items k);
}
