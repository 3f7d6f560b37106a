-- What the taking of an entry does to the frames under way.
use Rattle.std.specs.Prelude.{◌≡◌, ℕ, List, [], ◌∷◌, ◌++◌, ◌==◌, if◌then◌else◌}
use Rattle.cmh_runs.specs.declared.entry.Entry.{Entry}
use Rattle.cmh_runs.specs.Journals.{frames_to}
use Rattle.cmh_runs.specs.Runs.{IsBeginningOf}
use Rattle.cmh_merge.specs.Queues.{Queues, waiting}

module _ {F : Type 0} where
  -- the site sent these frames
  abbrev pub SendsFrames : ℕ → List (ℕ × F) → Queues F → Queues F → Type 0
  SendsFrames site sent old new =
      (a b : ℕ) → waiting new a b ≡ waiting old a b ++ (if site == a then frames_to b sent else [])

module _ {E F : Type 0} (got : ℕ → E → List F) where
  -- what the event of the site got, if it got a frame, was the next of its link and is gone
  abbrev pub ReceivesFrame : ℕ → E → Queues F → Queues F → Type 0
  ReceivesFrame site event old new =
      (a b : ℕ) → (if site == b then got a event else []) ++ waiting new a b ≡ waiting old a b

  -- what an entry of the site got is gone, and what it sent came in
  abbrev pub MovesFrames : ℕ → Entry E F → Queues F → Queues F → Type 0
  MovesFrames site entry old new =
      (a b : ℕ) → (if site == b then got a entry.event else []) ++ waiting new a b
      ≡ waiting old a b ++ (if site == a then frames_to b entry.sent else [])

  -- the site has no entry left, or its next one got a frame that is not the next of its link
  abbrev pub IsStuck : ℕ → List (Entry E F) → Queues F → Type 0
  IsStuck site left queues =
      (e : Entry E F) (es : List (Entry E F)) → left ≡ e ∷ es
      → ((a : ℕ) → IsBeginningOf (got a e.event) (waiting queues a site)) → ⊥

  -- the next entry can be taken, and what it got is gone
  abbrev pub CanTake : ℕ → List (Entry E F) → Queues F → Queues F → Type 0
  CanTake site left old new =
      (e : Entry E F) × (es : List (Entry E F)) × (left ≡ e ∷ es) × ReceivesFrame site e.event old new

  -- the next entry was taken
  abbrev pub Takes : ℕ → List (Entry E F) → List (Entry E F) → Queues F → Queues F → Type 0
  Takes site left rest old new = (e : Entry E F) × (left ≡ e ∷ rest) × MovesFrames site e old new
