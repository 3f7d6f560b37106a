-- Sets of pairs of processes: at the number of the first of a pair, a list with the second.
use Rattle.std.specs.Prelude.{ℕ, Bool, List, [], slice_index_or}
use Rattle.cmh_model3.specs.Lists.{in_list}

-- whether the pair is in the set; none is where the lists end before
abbrev pub has_pair : List (List ℕ) → ℕ → ℕ → Bool
has_pair rows j k = in_list (slice_index_or rows j []) k
