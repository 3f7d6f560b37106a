-- The rows of the base of a state, process by process.
use Rattle.std.specs.Prelude.{ℕ, Bool, not, ◌==◌, List, map}
use Rattle.std.specs.List.{filter}
use Rattle.cmh_controller3.specs.declared.mark_row.Mark.{Mark}
use Rattle.cmh_model3.specs.State.{State}
use Rattle.cmh_segment3.specs.States.{all_numbers}
use Rattle.cmh_segment3.specs.declared.rows.Pair.{Pair}
use Rattle.cmh_segment3.specs.declared.rows.Stamped.{Stamped}
use Rattle.cmh_segment3.specs.declared.rows.StampedPair.{StampedPair}
use Rattle.cmh_waits3.specs.declared.wait.Wait.{Wait}

-- ---- one row

abbrev pub pair_of : ℕ → ℕ → Pair
pair_of a b = record { first = a; second = b }

abbrev pub stamped_pair_of : (ℕ → ℕ → ℕ) → ℕ → ℕ → StampedPair
stamped_pair_of stamp a b = record { first = a; second = b; stamp = stamp a b }

abbrev pub stamped_of : (ℕ → ℕ) → ℕ → Stamped
stamped_of stamp a = record { process = a; stamp = stamp a }

-- that of a wait, and that of a mark
abbrev pub row_of_wait : ℕ → Wait → StampedPair
row_of_wait a w = record { first = a; second = w.target; stamp = w.since }

abbrev pub row_of_mark : ℕ → Mark → StampedPair
row_of_mark a m = record { first = a; second = m.origin; stamp = m.stamp }

-- a mark whose stamp is 0 is none
abbrev pub is_mark : Mark → Bool
is_mark m = not (m.stamp == 0)

-- ---- those of a process

-- the origins of its marks
abbrev pub marked_by : State → ℕ → List ℕ
marked_by v k = filter (λ i. not (v.marks k i == 0)) all_numbers

abbrev pub has_asked : State → ℕ → Bool
has_asked v j = not (v.stamp j == 0)

abbrev pub pairs_from : (ℕ → ℕ → Bool) → ℕ → List Pair
pairs_from test a = map (pair_of a) (filter (test a) all_numbers)

abbrev pub waits_from : State → ℕ → List StampedPair
waits_from v a = map (stamped_pair_of v.since a) (v.waits a)

abbrev pub marks_from : State → ℕ → List StampedPair
marks_from v k = map (stamped_pair_of v.marks k) (marked_by v k)
