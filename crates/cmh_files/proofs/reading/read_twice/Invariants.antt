use Rattle.std.proofs.Common.{◌≡◌, ℕ, ◌<◌, length, map, Vec}
use Rattle.std.specs.Global.{Global}
use Rattle.cmh_files.specs.Readings.{IsReadTwice, file_at}
use Rattle.cmh_files.specs.Stops.{journal_at, length_at}
use Rattle.cmh_files.proofs.reading.read_twice.Given as goal

abbrev pub invariant-loop-i : goal.invariant-loop-i
invariant-loop-i l = record {
  lengths : length l.before.items ≡ l.i;
  each : length l.journals.items ≡ l.i;
  read : (k : ℕ) → k < l.i → IsReadTwice (file_at (map (λ (file : Vec ℕ Global). file.items) l.first) k) (file_at (map (λ (file : Vec ℕ Global). file.items) l.second) k)
      (length_at l.before.items k) (journal_at l.journals.items k);
}
