-- The frames that are under way: for each sending site a row, and in it a queue for each receiving site, both at the
-- site's number. Where a list ends before the number, nothing is under way.
use Rattle.std.specs.Prelude.{◌≡◌, ℕ, ◌&&◌, ◌==◌, List, [], ◌∷◌, if◌then◌else◌, slice_index_or, Option, Some, None}
use Rattle.cmh_frames.specs.declared.frame.Frame.{Frame}

abbrev pub Links : Type 0
Links = List (List (List Frame))

-- what is under way to b in a row
abbrev pub queue_at : List (List Frame) → ℕ → List Frame
queue_at row b = slice_index_or row b []

-- the row of the sender a
abbrev pub row_at : Links → ℕ → List (List Frame)
row_at links a = slice_index_or links a []

-- the frames under way from a to b, the oldest first
abbrev pub waiting : Links → ℕ → ℕ → List Frame
waiting links a b = queue_at (row_at links a) b

-- the frame at its own link, and nothing at others
abbrev pub only_at : ℕ → ℕ → Frame → ℕ → ℕ → List Frame
only_at from to frame a b = if (from == a) && (to == b) then frame ∷ [] else []

abbrev pub if_some_at : ℕ → ℕ → Option Frame → ℕ → ℕ → List Frame
if_some_at from to None a b = []
if_some_at from to (Some frame) a b = only_at from to frame a b

-- the frames, but none at this link
abbrev pub without_at : ℕ → ℕ → List Frame → ℕ → ℕ → List Frame
without_at from to frames a b = if (from == a) && (to == b) then [] else frames

-- each queue is as it was
abbrev pub SameQueues : Links → Links → Type 0
SameQueues old new = (a b : ℕ) → waiting new a b ≡ waiting old a b

-- ---- the same in one row

abbrev pub only_to : ℕ → Frame → ℕ → List Frame
only_to to frame b = if to == b then frame ∷ [] else []

abbrev pub if_some_to : ℕ → Option Frame → ℕ → List Frame
if_some_to to None b = []
if_some_to to (Some frame) b = only_to to frame b

abbrev pub without_to : ℕ → List Frame → ℕ → List Frame
without_to to frames b = if to == b then [] else frames

abbrev pub SameRow : List (List Frame) → List (List Frame) → Type 0
SameRow old new = (b : ℕ) → queue_at new b ≡ queue_at old b
