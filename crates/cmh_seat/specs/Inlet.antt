-- A reader whose frames are given as bytes.
use Rattle.std.specs.Prelude.{◌≡◌, ℕ, ◌+◌, ◌<◌, true, List, [], ◌++◌, length, None, Some}
use Rattle.cmh_frames.specs.Wire.{spelled}
use Rattle.cmh_frames.specs.declared.frame.Frame.{Frame}
use Rattle.cmh_reader.specs.Reader.{BeginsLink, ExpectsSame, Reader, StandsFor, Takes}
use Rattle.cmh_reader.specs.Stream.{HasMore, fault_of}
use Rattle.cmh_reader.specs.declared.fault.ReadFault.TheVariants.{Memory}
use Rattle.cmh_seat.specs.Fills.{Fills}
use Rattle.cmh_seat.specs.declared.inlet.InletFault.{InletFault}
use Rattle.cmh_seat.specs.declared.inlet.InletFault.TheVariants.{Short, Read}

-- The frames of the stream so far past those of the stream before, however it was cut, fill what was lent. What an
-- expected site sent on the link comes, in its order.
pub record Gave (old : Reader) (piece before after : List ℕ) (count : ℕ) (new : Reader) : Type 0 where
  pub frames : List Frame
  pub takes : Takes old new piece frames
  pub fills : Fills (spelled frames) before after count
  pub no_fault : frames ≡ [] → fault_of new.standing ≡ None
  pub expects : ExpectsSame old new
  pub comes : (stream : List ℕ) (earlier sent : List Frame) → StandsFor old stream earlier
      → BeginsLink old.edition old.senders (stream ++ piece) sent
      → (later : List Frame) × (earlier ++ frames ++ later ≡ sent)

-- Why no frames are given. Where the stream has a fault, no frame is new; where memory was refused to frames that are
-- new, the piece may be fed again.
abbrev pub GaveNothing : Reader → List ℕ → ℕ → InletFault → Reader → Type 0
GaveNothing old piece room Short new = (room < length piece + 6) × (new ≡ old)
GaveNothing old piece room (Read Memory) new =
    (new ≡ record old { starved = true })
    × ((stream : List ℕ) (frames : List Frame) → StandsFor old stream frames
    → HasMore old.edition old.senders (stream ++ piece) frames)
GaveNothing old piece room (Read fault) new =
    (fault_of new.standing ≡ Some fault) × Takes old new piece [] × ExpectsSame old new
