-- What has come on a link so far: its frames, and what stands after them.
use Rattle.std.specs.Prelude.{◌≡◌, ◌≢◌, ℕ, ◌+◌, ◌<◌, ◌≤◌, min, List, [], ◌++◌, length, Contains, Option, None, Some}
use Rattle.std.specs.List.{AllByRecursion}
use Rattle.cmh_frames.specs.Number.{IsNumber}
use Rattle.cmh_frames.specs.Wire.{IsFrame, IsFront, hello, spelled, link_bytes}
use Rattle.cmh_frames.specs.declared.edition.Edition.{Edition}
use Rattle.cmh_frames.specs.declared.frame.Frame.{Frame}
use Rattle.cmh_frames.specs.declared.frame.Front.TheVariants.{Short, Bad}
use Rattle.cmh_reader.specs.declared.fault.ReadFault.{ReadFault}
use Rattle.cmh_reader.specs.declared.fault.ReadFault.TheVariants.{BadHello, WrongSite, BadFrame}
use Rattle.cmh_reader.specs.declared.standing.Standing.{Standing}
use Rattle.cmh_reader.specs.declared.standing.Standing.TheVariants.{Greeting, NoHello, Stranger, Open, Broken}

-- the stream begins with the hello of a site that isn't expected
pub record BeginsStrange (edition : Edition) (senders stream : List ℕ) : Type 0 where
  pub site : ℕ
  pub behind : List ℕ
  pub number : IsNumber site
  pub unexpected : ¬ Contains senders site
  pub whole : stream ≡ hello edition site ++ behind

-- The stream is the hello of a site that is expected, then the spellings of the frames, then the rest.
pub record Splits (edition : Edition) (senders stream : List ℕ) (sender : ℕ) (frames : List Frame)
    (rest : List ℕ) : Type 0 where
  pub number : IsNumber sender
  pub expected : Contains senders sender
  pub each : AllByRecursion IsFrame frames
  pub whole : stream ≡ link_bytes edition sender frames ++ rest

-- The stream has frames after these.
pub record HasMore (edition : Edition) (senders stream : List ℕ) (frames : List Frame) : Type 0 where
  pub sender : ℕ
  pub more : List Frame
  pub rest : List ℕ
  pub some : 0 < length more
  pub splits : Splits edition senders stream sender (frames ++ more) rest

-- the place in the stream after the hello and the frames, as far as 64 bits can tell it
abbrev pub place_behind : List Frame → ℕ
place_behind frames = min (6 + length (spelled frames)) 18446744073709551615

-- The stream's frames are these, and it has come to this: less than a hello, no hello, the hello of a stranger,
-- or frames and then less than a frame or no frame.
abbrev pub Reads : Edition → List ℕ → List ℕ → List Frame → Standing → Type 0
Reads edition senders stream frames (Greeting rest) = (length stream < 6) × (rest ≡ stream) × (frames ≡ [])
Reads edition senders stream frames NoHello = (6 ≤ length stream) × (frames ≡ [])
    × ((site : ℕ) (behind : List ℕ) → IsNumber site → stream ≢ hello edition site ++ behind)
Reads edition senders stream frames Stranger = BeginsStrange edition senders stream × (frames ≡ [])
Reads edition senders stream frames (Open sender rest offset) =
    Splits edition senders stream sender frames rest × IsFront rest Short × (offset ≡ place_behind frames)
Reads edition senders stream frames (Broken sender offset) =
    (rest : List ℕ) × Splits edition senders stream sender frames rest × IsFront rest Bad ×
    (offset ≡ place_behind frames)

-- the fault of a stream that has come to this
abbrev pub fault_of : Standing → Option ReadFault
fault_of NoHello = Some BadHello
fault_of Stranger = Some WrongSite
fault_of (Broken sender offset) = Some (BadFrame offset)
fault_of standing = None

-- the site of its hello, once that was good
abbrev pub sender_of : Standing → Option ℕ
sender_of (Open sender rest offset) = Some sender
sender_of (Broken sender offset) = Some sender
sender_of standing = None

-- its bytes past the last whole frame, or of a hello that isn't whole; none after a fault
abbrev pub rest_of : Standing → List ℕ
rest_of (Greeting rest) = rest
rest_of NoHello = []
rest_of Stranger = []
rest_of (Open sender rest offset) = rest
rest_of (Broken sender offset) = []

-- what is kept has not become a hello or a frame
abbrev pub IsPending : Standing → Type 0
IsPending (Greeting rest) = length rest < 6
IsPending NoHello = Unit {0}
IsPending Stranger = Unit {0}
IsPending (Open sender rest offset) = IsFront rest Short
IsPending (Broken sender offset) = Unit {0}
