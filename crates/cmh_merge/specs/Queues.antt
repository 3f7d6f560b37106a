-- The frames that are under way: for each sending site a row, and in it a queue for each receiving site, both at the
-- site's number. Where a list ends before the number, nothing is under way.
use Rattle.std.specs.Prelude.{◌≡◌, ℕ, ◌&&◌, ◌==◌, List, [], ◌∷◌, if◌then◌else◌, slice_index_or, Option, Some, None}

abbrev pub Queues : Type 0 → Type 0
Queues F = List (List (List F))

module _ {F : Type 0} where
  -- what is under way to b in a row
  abbrev pub queue_at : List (List F) → ℕ → List F
  queue_at row b = slice_index_or row b []

  -- the row of the sender a
  abbrev pub row_at : Queues F → ℕ → List (List F)
  row_at queues a = slice_index_or queues a []

  -- the frames under way from a to b, the oldest first
  abbrev pub waiting : Queues F → ℕ → ℕ → List F
  waiting queues a b = queue_at (row_at queues a) b

  -- the frame at its own link, and nothing at others
  abbrev pub only_at : ℕ → ℕ → F → ℕ → ℕ → List F
  only_at from to frame a b = if (from == a) && (to == b) then frame ∷ [] else []

  abbrev pub if_some_at : ℕ → ℕ → Option F → ℕ → ℕ → List F
  if_some_at from to None a b = []
  if_some_at from to (Some frame) a b = only_at from to frame a b

  -- each queue is as it was
  abbrev pub SameQueues : Queues F → Queues F → Type 0
  SameQueues old new = (a b : ℕ) → waiting new a b ≡ waiting old a b
