-- The queues of one sender.
use Rattle.std.specs.Prelude.{◌≡◌, ℕ, ◌==◌, List, [], ◌∷◌, if◌then◌else◌, Option, Some, None}
use Rattle.cmh_merge.specs.Queues.{queue_at}

module _ {F : Type 0} where
  abbrev pub only_to : ℕ → F → ℕ → List F
  only_to to frame b = if to == b then frame ∷ [] else []

  abbrev pub if_some_to : ℕ → Option F → ℕ → List F
  if_some_to to None b = []
  if_some_to to (Some frame) b = only_to to frame b

  abbrev pub SameRow : List (List F) → List (List F) → Type 0
  SameRow old new = (b : ℕ) → queue_at new b ≡ queue_at old b
