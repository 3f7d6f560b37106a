-- How messages stand on the wire and in files. A message: the kind of its frame, the clock of its sender, and what the
-- frame names. A clock and a stamp have eight bytes and a process two, the greatest byte first.
use Rattle.std.specs.Prelude.{◌≡◌, ◌≢◌, ℕ, ◌+◌, ◌^◌, ◌<◌, ◌≤◌, ◌==◌, List, [], ◌∷◌, ◌++◌, length, take, flat_map, if◌then◌else◌, ⊤}
use Rattle.byteorder.specs.Endian.{big_bytes}
use Rattle.cmh_runs.specs.Number.{IsNumber}
use Rattle.cmh_model3.specs.declared.frame.Frame.{Frame}
use Rattle.cmh_model3.specs.declared.frame.Frame.TheVariants.{Request, Reply, Withdraw, Probe}
use Rattle.cmh_model3.specs.declared.frame.Message.{Message}
use Rattle.cmh_wire3.specs.declared.frame.Front.{Front}
use Rattle.cmh_wire3.specs.declared.frame.Front.TheVariants.{Whole, Short, Bad}

-- a number of eight bytes
abbrev pub IsLong : ℕ → Type 0
IsLong n = n < 2 ^ 64

-- the last two processes of a frame: they differ
pub record IsPair (pair : ℕ × ℕ) : Type 0 where
  pub first : IsNumber pair.0
  pub second : IsNumber pair.1
  pub differ : pair.0 ≢ pair.1

abbrev pub pair_spelling : ℕ × ℕ → List ℕ
pair_spelling pair = big_bytes 2 pair.0 ++ big_bytes 2 pair.1

abbrev pub IsFrame : Frame → Type 0
IsFrame (Request asker holder) = IsPair (asker, holder)
IsFrame (Reply holder asker) = IsPair (holder, asker)
IsFrame (Probe origin stamp from to) = IsLong stamp × IsNumber origin × IsPair (from, to)
IsFrame (Withdraw asker holder) = IsPair (asker, holder)

pub record IsMessage (m : Message) : Type 0 where
  pub clock : IsLong m.clock
  pub frame : IsFrame m.frame

-- the kind of a frame
abbrev pub kind_of : Frame → ℕ
kind_of (Request asker holder) = 1
kind_of (Reply holder asker) = 2
kind_of (Probe origin stamp from to) = 3
kind_of (Withdraw asker holder) = 4

-- what it names: the stamp of a probe's ask, and then processes
abbrev pub numbers_of : Frame → List ℕ
numbers_of (Request asker holder) = pair_spelling (asker, holder)
numbers_of (Reply holder asker) = pair_spelling (holder, asker)
numbers_of (Probe origin stamp from to) = big_bytes 8 stamp ++ (big_bytes 2 origin ++ pair_spelling (from, to))
numbers_of (Withdraw asker holder) = pair_spelling (asker, holder)

abbrev pub spelling : Message → List ℕ
spelling m = kind_of m.frame ∷ big_bytes 8 m.clock ++ numbers_of m.frame

-- the bytes spell the message
pub record Spells (bytes : List ℕ) (m : Message) : Type 0 where
  pub message : IsMessage m
  pub bytes_are : bytes ≡ spelling m

pub record IsKind (kind : ℕ) : Type 0 where
  pub least : 1 ≤ kind
  pub most : kind ≤ 4

-- no bytes, or a kind with fewer bytes than its spellings have: those of a probe have 23, and the others 13
abbrev pub IsShort : List ℕ → Type 0
IsShort [] = ⊤
IsShort (kind ∷ body) = IsKind kind × (length body + 1 < (if kind == 3 then 23 else 13))

-- what the bytes begin with: a message's spelling, less than a message of their kind, or neither
abbrev pub IsFront : List ℕ → Front → Type 0
IsFront bytes (Whole m n) = (n ≤ length bytes) × Spells (take n bytes) m
IsFront bytes Short = IsShort bytes
IsFront bytes Bad = ¬ IsShort bytes × ((m : Message) (more : List ℕ) → IsMessage m → bytes ≢ spelling m ++ more)

-- the spellings of messages, in order
abbrev pub spelled : List Message → List ℕ
spelled messages = flat_map spelling messages
