use Rattle.std.proofs.Common.{◌≡◌, ℕ, true, take}
use Rattle.std.specs.List.{All, list_any}
use Rattle.cmh_history3.specs.Epochs.{IsClosed, begins}
use Rattle.cmh_history3.proofs.epochs.next_closed.Given as goal

-- none with which the journals so far go on is closed
abbrev pub invariant-loop-journal : goal.invariant-loop-journal
invariant-loop-journal l = (epoch : ℕ) → list_any (begins epoch) (take l.journal-index l.journals) ≡ true → All (IsClosed epoch) l.journals → ⊥
