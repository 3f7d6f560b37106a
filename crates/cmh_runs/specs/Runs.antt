-- Runs of a world: lists of the entries of all sites, in an order in which they can have been made.
use Rattle.std.specs.Prelude.{◌≡◌, ℕ, List, [], ◌∷◌, ◌++◌, length, drop, ◌==◌, if◌then◌else◌}
use Rattle.cmh_runs.specs.declared.entry.Entry.{Entry}
use Rattle.cmh_runs.specs.declared.entry.WorldEvent.{WorldEvent}
use Rattle.cmh_runs.specs.Rules.{Rules}
use Rattle.cmh_runs.specs.Journals.{IsLawful, value, sendings_of, receipts_of}

abbrev pub IsBeginningOf : {X : Type 0} → List X → List X → Type 0
IsBeginningOf {X} xs ys = (rest : List X) × (xs ++ rest ≡ ys)

module _ {Event Frame : Type 0} where
  -- the entries of one site, in the list's order
  abbrev pub entries_of : ℕ → List (WorldEvent Event Frame) → List (Entry Event Frame)
  entries_of s [] = []
  entries_of s (e ∷ es) = if e.site == s then e.entry ∷ entries_of s es else entries_of s es

  -- on the link from a to b: the frames that a sent, in the list's order
  abbrev pub sendings : ℕ → ℕ → List (WorldEvent Event Frame) → List Frame
  sendings a b events = sendings_of b (entries_of a events)

  -- The journals, given by site number, come from the list: each is what the list has of its site.
  abbrev pub ComesFrom : (ℕ → List (Entry Event Frame)) → List (WorldEvent Event Frame) → Type 0
  ComesFrom journals events = (s : ℕ) → entries_of s events ≡ journals s

module _ {State Event Frame : Type 0} (rules : ℕ → Rules State Event Frame) where
  -- the state of a site at the end of the list
  abbrev pub state_of : ℕ → List (WorldEvent Event Frame) → State
  state_of s events = value (rules s) (entries_of s events)

module _ {Event Frame : Type 0} (got : ℕ → Event → List Frame) where
  -- on the link from a to b: the frames that b got, in the list's order
  abbrev pub receipts : ℕ → ℕ → List (WorldEvent Event Frame) → List Frame
  receipts a b events = receipts_of got a (entries_of b events)

  -- the frames of a link that were sent and have not come, those that were lost among them
  abbrev pub under_way : ℕ → ℕ → List (WorldEvent Event Frame) → List Frame
  under_way a b events = drop (length (receipts a b events)) (sendings a b events)

  -- every frame that was sent has come
  abbrev pub IsDrained : List (WorldEvent Event Frame) → Type 0
  IsDrained events = (a b : ℕ) → receipts a b events ≡ sendings a b events

module _ {State Event Frame : Type 0} (got : ℕ → Event → List Frame) (rules : ℕ → Rules State Event Frame) where
  -- Each site's entries are lawful, and at every moment what came on a link is a beginning of what was sent on it.
  pub record IsRun (events : List (WorldEvent Event Frame)) : Type 0 where
    pub lawful : (s : ℕ) → IsLawful (rules s) (entries_of s events)
    pub in_order : (so_far : List (WorldEvent Event Frame)) → IsBeginningOf so_far events
        → (a b : ℕ) → IsBeginningOf (receipts got a b so_far) (sendings a b so_far)

  -- The journals, given by site number and so one for each site, come from a run.
  abbrev pub ComeFromRun : (ℕ → List (Entry Event Frame)) → Type 0
  ComeFromRun journals = (events : List (WorldEvent Event Frame)) × IsRun events × ComesFrom journals events
