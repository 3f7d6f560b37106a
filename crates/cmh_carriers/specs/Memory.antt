-- Connections in memory: what each call answers, and what it changes.
use Rattle.std.specs.Prelude.{ℕ, ◌≡◌, ◌+◌, ◌-◌, ◌<◌, ◌⊎◌, List, ◌++◌, length, min, take, false, true, Result, Ok, Err}
use Rattle.std.specs.Vec.{vec_capacity}
use Rattle.cmh_journal.specs.Fuse.{is_due, left_after}
use Rattle.cmh_carriers.specs.declared.carrier.IoFault.{IoFault}
use Rattle.cmh_carriers.specs.declared.memory.MemIncoming.{MemIncoming}
use Rattle.cmh_carriers.specs.declared.memory.MemOutgoing.{MemOutgoing}

-- how many bytes there are for a buffer with room for so many
abbrev pub next_count : MemIncoming → ℕ → ℕ
next_count c room = min (min c.piece (length c.bytes.items - c.at)) room

-- one call was counted, and what it was made with is the same
pub record CountedRead (old new : MemIncoming) : Type 0 where
  pub bytes : new.bytes.items ≡ old.bytes.items
  pub piece : new.piece ≡ old.piece
  pub fuse : new.fuse.0 ≡ left_after false old.fuse.0

-- A call that is due fails and gives nothing, and no other call fails.
abbrev pub AnswersRead : MemIncoming → List ℕ → Result ℕ IoFault → MemIncoming → Type 0
AnswersRead old buffer (Ok count) new =
    CountedRead old new × (is_due old.fuse.0 ≡ false) × (count ≡ next_count old (length buffer))
    × (new.at ≡ old.at + count) × (new.faults ≡ old.faults)
AnswersRead old buffer (Err fault) new =
    CountedRead old new × (is_due old.fuse.0 ≡ true) × (new.at ≡ old.at) × (new.faults ≡ old.faults + 1)

-- of a piece, what one call takes
abbrev pub taken_part : MemOutgoing → List ℕ → List ℕ
taken_part c piece = take (min c.piece (length piece)) piece

-- one call was counted
pub record CountedWrite (old new : MemOutgoing) : Type 0 where
  pub piece : new.piece ≡ old.piece
  pub fuse : new.fuse.0 ≡ left_after false old.fuse.0

-- A call that is due fails and takes nothing. Another call fails only where what it would take needs more memory than
-- is there.
abbrev pub AnswersWrite : MemOutgoing → List ℕ → Result ℕ IoFault → MemOutgoing → Type 0
AnswersWrite old piece (Ok count) new =
    CountedWrite old new × (is_due old.fuse.0 ≡ false) × (count ≡ length (taken_part old piece))
    × (new.bytes.items ≡ old.bytes.items ++ taken_part old piece) × (new.faults ≡ old.faults)
AnswersWrite old piece (Err fault) new =
    CountedWrite old new
    × ((is_due old.fuse.0 ≡ true) ⊎ (vec_capacity old.bytes < length old.bytes.items + length (taken_part old piece)))
    × (new.bytes.items ≡ old.bytes.items) × (new.faults ≡ old.faults + 1)
