-- A merge under way: what is left of the journals, the frames under way, and the sites of the entries that were taken.
use Rattle.std.specs.Prelude.{◌≡◌, ℕ, ◌+◌, ◌<◌, Bool, List, [], ◌∷◌, ◌++◌, length, map, slice_index_or, slice_set, MatchBool}
use Rattle.cmh_runs.specs.declared.entry.Entry.{Entry}
use Rattle.cmh_runs.specs.declared.entry.WorldEvent.{WorldEvent}
use Rattle.cmh_runs.specs.Runs.{entries_of, receipts, sendings}
use Rattle.cmh_merge.specs.Queues.{Queues, waiting}
use Rattle.cmh_merge.specs.Inner.Takings.{IsStuck, Takes}
use Rattle.cmh_merge.specs.Merges.{AreDistinct, IsInOrderFrom, journal_of}

-- how many entries are left
abbrev pub total : {X : Type 0} → List (List X) → ℕ
total [] = 0
total (xs ∷ lists) = length xs + total lists

abbrev pub site_at : List ℕ → ℕ → ℕ
site_at sites k = slice_index_or sites k 0

module _ {E F : Type 0} (got : ℕ → E → List F) (sites : List ℕ) where
  -- a list in order has what was taken, and the links what was under way at first or sent, and not got
  pub record IsMerging (first : ℕ → ℕ → List F) (journals left : List (List (Entry E F))) (queues : Queues F) (order : List ℕ) : Type 0 where
    pub events : List (WorldEvent E F)
    pub in_turn : map (λ (e : WorldEvent E F). e.site) events ≡ order
    pub in_order : IsInOrderFrom got first events
    pub under_way : (a b : ℕ) → receipts got a b events ++ waiting queues a b ≡ first a b ++ sendings a b events
    pub rest : (s : ℕ) → entries_of s events ++ journal_of sites left s ≡ journal_of sites journals s

  abbrev pub StuckAt : List (List (Entry E F)) → Queues F → ℕ → Type 0
  StuckAt left queues k = IsStuck got (site_at sites k) (slice_index_or left k []) queues

  -- the site at this place took its next entry
  pub record TakesAt (k : ℕ) (left left' : List (List (Entry E F))) (old new : Queues F) (order order' : List ℕ) : Type 0 where
    pub rest : List (Entry E F)
    pub takes : Takes got (site_at sites k) (slice_index_or left k []) rest old new
    pub left_is : left' ≡ slice_set left k rest
    pub order_is : order' ≡ order ++ site_at sites k ∷ []

  -- the merge went on, where it moved, and else stayed as it was
  pub record GoesOn (moved : Bool) (left left' : List (List (Entry E F))) (old new : Queues F) (order order' : List ℕ) : Type 0 where
    pub long : length left' ≡ length left
    pub leads : (first : ℕ → ℕ → List F) (journals : List (List (Entry E F))) → AreDistinct sites
        → length left ≡ length sites → IsMerging first journals left old order → IsMerging first journals left' new order'
    pub less : MatchBool moved (total left' < total left) ((left' ≡ left) × (new ≡ old) × (order' ≡ order))
