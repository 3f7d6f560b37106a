-- Walks through the entries of journals, which count their frames.
use Rattle.std.specs.Prelude.{◌≡◌, ℕ, ◌+◌, ◌<◌, ◌≤◌, List, [], ◌∷◌, length, take, drop, slice_index_or}
use Rattle.cmh_frames.specs.Entries.{Entry}
use Rattle.cmh_frames.specs.Journals.{frame_from, frames_to, receipts_of, sendings_of}
use Rattle.cmh_journal.specs.Journal.{Journal, entry_limit}
use Rattle.cmh_files.specs.Inner.Counts.{count_at}
use Rattle.cmh_files.specs.Stops.{Stop, journal_at, length_at}
use Rattle.cmh_files.specs.declared.walk.Walk.{Walk}

-- the walk stands behind the first n entries of the journal, and has counted their frames
pub record StandsAt (journal : Journal) (n : ℕ) (walk : Walk) : Type 0 where
  pub site : walk.site ≡ journal.site
  pub within : n ≤ length journal.entries
  pub limited : length journal.entries ≤ entry_limit
  pub left : walk.left ≡ drop n journal.entries
  pub sent : (s : ℕ) → count_at walk.sent s ≡ length (sendings_of s (take n journal.entries))
  pub got : (s : ℕ) → count_at walk.got s ≡ length (receipts_of s (take n journal.entries))

-- the walk went past this entry
pub record GoesPast (entry : Entry) (old new : Walk) : Type 0 where
  pub site : new.site ≡ old.site
  pub left : old.left ≡ entry ∷ new.left
  pub sent : (s : ℕ) → count_at new.sent s ≡ count_at old.sent s + length (frames_to s entry.sent)
  pub got : (s : ℕ) → count_at new.got s ≡ count_at old.got s + length (frame_from s entry.event)

-- it went past the next entry
abbrev pub Goes : Walk → Walk → Type 0
Goes old new = (entry : Entry) × GoesPast entry old new

abbrev pub nowhere : Walk
nowhere = record { site = 0; left = []; sent = []; got = [] }

abbrev pub walk_at : List Walk → ℕ → Walk
walk_at walks i = slice_index_or walks i nowhere

-- each stands where the stop cuts its journal
pub record StandAt (journals : List Journal) (stop : Stop) (walks : List Walk) : Type 0 where
  pub each : length walks ≡ length journals
  pub lengths : length stop ≡ length journals
  pub at : (i : ℕ) → i < length journals → StandsAt (journal_at journals i) (length_at stop i) (walk_at walks i)

-- the site at place b got more from that at place a than that sent
abbrev pub Lacks : List Walk → ℕ → ℕ → Type 0
Lacks walks a b =
    count_at (walk_at walks a).sent (walk_at walks b).site < count_at (walk_at walks b).got (walk_at walks a).site

-- some site got more from that at place a than that sent
abbrev pub LacksSome : List Walk → ℕ → Type 0
LacksSome walks a = (b : ℕ) × (b < length walks) × Lacks walks a b

-- none did
abbrev pub LacksNone : List Walk → ℕ → Type 0
LacksNone walks a = (b : ℕ) → b < length walks
    → count_at (walk_at walks b).got (walk_at walks a).site ≤ count_at (walk_at walks a).sent (walk_at walks b).site
