-- A list of places of journals whose sites may go on.
use Rattle.std.specs.Prelude.{◌≡◌, ℕ, ◌+◌, ◌<◌, ◌≤◌, ◌⊎◌, List, [], ◌∷◌, ◌++◌, length, slice_index_or, Contains, Option, Some, None}
use Rattle.cmh_frames.specs.declared.frame.Frame.{Frame}
use Rattle.cmh_frames.specs.Journals.{frames_to}
use Rattle.cmh_journal.specs.Journal.{Journal}

-- the list with the site whose turn it is, if it is some site's
abbrev pub with_turn : Option ℕ → List ℕ → List ℕ
with_turn None ready = ready
with_turn (Some i) ready = ready ++ i ∷ []

-- how many sites lack a frame
abbrev pub parked_count : List (Option ℕ) → ℕ
parked_count [] = 0
parked_count (None ∷ lacks) = parked_count lacks
parked_count (Some a ∷ lacks) = 1 + parked_count lacks

-- Of the sites that lack a frame of `from`, those to which one of these frames was sent
-- came to the list; the others lack what they lacked.
pub record Wakes (journals : List Journal) (sent : List (ℕ × Frame)) (first ready : List ℕ)
    (before lacks : List (Option ℕ)) (from : ℕ) : Type 0 where
  pub long : length lacks ≡ length before
  pub kept : (k : ℕ) → Contains first k → Contains ready k
  pub inside : (k : ℕ) → Contains ready k → Contains first k ⊎ (k < length journals)
  pub others : (k : ℕ) (j : Journal) → k < length journals → j ≡ slice_index_or journals k j
      → Contains ready k ⊎ ((slice_index_or lacks k None ≡ slice_index_or before k None)
      × (slice_index_or before k None ≡ Some from → frames_to j.site sent ≡ []))
  pub bound : length ready ≤ length first + length sent
  pub even : length ready + parked_count lacks ≤ length first + parked_count before

-- each number below n, and no other, in a list of that length
pub record ArePlaces (all : List ℕ) (n : ℕ) : Type 0 where
  pub long : length all ≡ n
  pub each : (k : ℕ) → k < n → Contains all k
  pub inside : (k : ℕ) → Contains all k → k < n
