use Rattle.std.proofs.Common.{◌≡◌, ℕ, ◌<◌, length, map, take, Vec}
use Rattle.std.specs.Global.{Global}
use Rattle.cmh_files.specs.Readings.{Keeps, file_at}
use Rattle.cmh_files.specs.Stops.{journal_at, length_at}
use Rattle.cmh_files.proofs.common_stop.lengths_of.Given as goal

abbrev pub invariant-loop-i : goal.invariant-loop-i
invariant-loop-i l = record {
  each : length l.lengths.items ≡ l.i;
  keeps : (k : ℕ) → k < l.i → Keeps (file_at (map (λ (file : Vec ℕ Global). file.items) l.first) k) (length_at l.read.before.items k) (length_at l.stop k) (journal_at l.read.journals.items k)
      (take (length_at l.lengths.items k) (file_at (map (λ (file : Vec ℕ Global). file.items) l.second) k));
}
