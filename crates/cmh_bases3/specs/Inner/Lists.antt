-- A state with one of the lists of a base.
use Rattle.std.specs.Prelude.{ℕ, ◌||◌, List}
use Rattle.cmh_model3.specs.State.{State}
use Rattle.cmh_controller3.specs.WaysBack.{owed_back}
use Rattle.cmh_segment3.specs.States.{beside, has_pair, has_process, stamp_at, stamp_of}
use Rattle.cmh_segment3.specs.declared.rows.Pair.{Pair}
use Rattle.cmh_segment3.specs.declared.rows.Stamped.{Stamped}
use Rattle.cmh_segment3.specs.declared.rows.StampedPair.{StampedPair}

abbrev pub with_stamps : List Stamped → State → State
with_stamps rows v = record v { stamp = stamp_of rows }

-- between two processes of the site these waits are owed
abbrev pub with_waits : (ℕ → ℕ) → ℕ → List StampedPair → State → State
with_waits home s rows v = record v {
  waits = (λ j. beside j rows);
  since = stamp_at rows;
  owed = owed_back home s (λ j. beside j rows) v.owed;
}

abbrev pub with_left : List Pair → State → State
with_left rows v = record v { leaving = has_pair rows }

-- besides what is owed already
abbrev pub with_owed : List Pair → State → State
with_owed rows v = record v { owed = (λ k j. has_pair rows k j || v.owed k j) }

abbrev pub with_marks : List StampedPair → State → State
with_marks rows v = record v { marks = stamp_at rows }

abbrev pub with_declared : List Stamped → State → State
with_declared rows v = record v { declared = has_process rows }
