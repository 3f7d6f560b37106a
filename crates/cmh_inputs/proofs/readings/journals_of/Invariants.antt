use Rattle.std.proofs.Common.{◌≡◌, ℕ, ◌<◌, length, map, Vec, Some}
use Rattle.std.specs.Global.{Global}
use Rattle.cmh_files.specs.Readings.{file_at}
use Rattle.cmh_inputs.specs.Reading.{IsReadAt}
use Rattle.cmh_inputs.specs.Readings.{path_at}
use Rattle.cmh_inputs.specs.Stored.{Stored}
use Rattle.cmh_inputs.proofs.readings.journals_of.Given as goal

abbrev pub invariant-loop-i : goal.invariant-loop-i
invariant-loop-i g l = record {
  count : length l.journals.items ≡ l.i;
  read : (stored : Stored) → g.N.Inputs.holds l.inputs ≡ Some stored → (k : ℕ) → k < l.i
      → IsReadAt stored (path_at (map (λ path. path.now) l.paths) k) (file_at (map (λ (file : Vec ℕ Global). file.items) l.journals.items) k);
}
