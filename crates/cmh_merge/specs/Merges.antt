-- The merge of the journals of all sites.
use Rattle.std.specs.Prelude.{◌≡◌, ℕ, ◌<◌, List, [], ◌∷◌, ◌++◌, ◌==◌, if◌then◌else◌, length, map, slice_index_or}
use Rattle.cmh_runs.specs.declared.entry.Entry.{Entry}
use Rattle.cmh_runs.specs.declared.entry.WorldEvent.{WorldEvent}
use Rattle.cmh_runs.specs.Journals.{receipts_of}
use Rattle.cmh_runs.specs.Runs.{IsBeginningOf, entries_of, receipts, sendings}

-- no two are of one site
abbrev pub AreDistinct : List ℕ → Type 0
AreDistinct sites =
    (j k : ℕ) → j < length sites → k < length sites → slice_index_or sites j 0 ≡ slice_index_or sites k 0 → j ≡ k

module _ {E F : Type 0} where
  -- what stands beside the site where it comes first; nothing where it is not among these
  abbrev pub journal_of : List ℕ → List (List (Entry E F)) → ℕ → List (Entry E F)
  journal_of [] journals s = []
  journal_of (site ∷ sites) [] s = []
  journal_of (site ∷ sites) (journal ∷ journals) s = if site == s then journal else journal_of sites journals s

module _ {E F : Type 0} (got : ℕ → E → List F) where
  -- no site got a frame of its own
  abbrev pub NoneFromItself : (ℕ → List (Entry E F)) → Type 0
  NoneFromItself journals = (s : ℕ) → receipts_of got s (journals s) ≡ []

  -- `first` says what is under way on each link before the journals begin
  module _ (first : ℕ → ℕ → List F) where
    -- at every moment of the list what came on a link is a beginning of what was under way on it and was sent on it
    abbrev pub IsInOrderFrom : List (WorldEvent E F) → Type 0
    IsInOrderFrom events =
        (so_far : List (WorldEvent E F)) → IsBeginningOf so_far events
        → (a b : ℕ) → IsBeginningOf (receipts got a b so_far) (first a b ++ sendings a b so_far)

    -- The journals of these sites, of which `left` was not taken: what was taken comes from a list in order, whose
    -- sites are these in turn; and no such list of beginnings of the journals has more.
    pub record IsMergeFrom (sites : List ℕ) (journals left : List (List (Entry E F))) (order : List ℕ) : Type 0 where
      pub events : List (WorldEvent E F)
      pub in_turn : map (λ (e : WorldEvent E F). e.site) events ≡ order
      pub in_order : IsInOrderFrom events
      pub rest : (s : ℕ) → entries_of s events ++ journal_of sites left s ≡ journal_of sites journals s
      pub most : NoneFromItself (journal_of sites journals) → (others : List (WorldEvent E F)) → IsInOrderFrom others
          → ((s : ℕ) → IsBeginningOf (entries_of s others) (journal_of sites journals s))
          → (s : ℕ) → IsBeginningOf (entries_of s others) (entries_of s events)

    -- `last` says what is under way on each link behind what was taken: whatever list has just that, what came on a link
    -- and what is under way at the end is what was under way and was sent.
    abbrev pub LeavesUnderWay : List ℕ → List (List (Entry E F)) → List (List (Entry E F)) → (ℕ → ℕ → List F) → Type 0
    LeavesUnderWay sites journals left last =
        (events : List (WorldEvent E F))
        → ((s : ℕ) → entries_of s events ++ journal_of sites left s ≡ journal_of sites journals s)
        → (a b : ℕ) → receipts got a b events ++ last a b ≡ first a b ++ sendings a b events

  -- ---- journals that begin with their world

  -- nothing is under way before its first step
  abbrev pub nothing_under_way : ℕ → ℕ → List F
  nothing_under_way a b = []

  abbrev pub IsInOrder : List (WorldEvent E F) → Type 0
  IsInOrder = IsInOrderFrom nothing_under_way

  abbrev pub IsMerge : List ℕ → List (List (Entry E F)) → List (List (Entry E F)) → List ℕ → Type 0
  IsMerge = IsMergeFrom nothing_under_way
