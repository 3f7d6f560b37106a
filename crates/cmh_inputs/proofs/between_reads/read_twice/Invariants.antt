use Rattle.std.proofs.Common.{◌≡◌, ℕ, ◌<◌, length, map, Vec}
use Rattle.std.specs.Global.{Global}
use Rattle.cmh_files.specs.Readings.{file_at}
use Rattle.cmh_inputs.specs.BetweenReads.{IsReadTwice, count_at, segment_at}
use Rattle.cmh_inputs.proofs.between_reads.read_twice.Given as goal

abbrev pub invariant-loop-i : goal.invariant-loop-i
invariant-loop-i l = record {
  counts : length l.before.items ≡ l.i;
  each : length l.segments.items ≡ l.i;
  read : (k : ℕ) → k < l.i → IsReadTwice (file_at (map (λ (file : Vec ℕ Global). file.items) l.first) k) (file_at (map (λ (file : Vec ℕ Global). file.items) l.second) k)
      (count_at l.before.items k) (segment_at l.segments.items k);
}
