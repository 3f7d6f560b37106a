-- Journals none of whose next epochs is closed.
use Rattle.std.specs.Prelude.{◌≡◌, ℕ, true, List}
use Rattle.std.specs.List.{All, list_any}
use Rattle.cmh_segment3.specs.declared.segment.Segment.{Segment}
use Rattle.cmh_history3.specs.Epochs.{IsClosed, begins}

-- no epoch with which one of the journals goes on was ended by all sites
abbrev pub NoneClosed : List (List Segment) → Type 0
NoneClosed journals = (epoch : ℕ) → list_any (begins epoch) journals ≡ true → ¬ All (IsClosed epoch) journals
