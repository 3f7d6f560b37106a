-- The lines of what a client sent.
use Rattle.std.specs.Prelude.{◌≡◌, ◌≢◌, ℕ, ◌<◌, List, [], ◌∷◌, length, slice_index}
use Rattle.std.specs.Io.BufRead.{drop_through, take_through}

-- a line feed is among the bytes: a line stands first in them
abbrev pub HasFeed : List ℕ → Type 0
HasFeed bytes = (k : ℕ) × (k < length bytes) × (slice_index bytes k ≡ 10)

-- none of so many bytes in front is a line feed
abbrev pub NoFeedIn : ℕ → List ℕ → Type 0
NoFeedIn count bytes = (k : ℕ) → k < count → slice_index bytes k ≢ 10

-- more bytes in front without a line feed than a client may send
abbrev pub IsEndless : List ℕ → Type 0
IsEndless bytes = (65536 < length bytes) × NoFeedIn 65537 bytes

-- The bytes begin with lines, each with its line feed, and then comes the rest. Of the lines some are to be answered and the
-- others were passed over, each in their order.
pub data BeginsWith : List ℕ → List (List ℕ) → List (List ℕ) → List ℕ → Type 0 where
  none : (bytes : List ℕ) → BeginsWith bytes [] [] bytes
  line : (bytes rest : List ℕ) (lines passed : List (List ℕ)) → HasFeed bytes → BeginsWith (drop_through 10 bytes) lines passed rest
      → BeginsWith bytes (take_through 10 bytes ∷ lines) passed rest
  past : (bytes rest : List ℕ) (lines passed : List (List ℕ)) → HasFeed bytes → BeginsWith (drop_through 10 bytes) lines passed rest
      → BeginsWith bytes lines (take_through 10 bytes ∷ passed) rest
