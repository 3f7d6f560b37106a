-- How frames stand on the wire. A frame: its kind, and then its numbers in two bytes each, the greater first.
-- A link: the hello of the site that sends, and then its frames.
use Rattle.std.specs.Prelude.{◌≡◌, ◌≢◌, ℕ, ◌+◌, ◌<◌, ◌≤◌, ◌==◌, List, [], ◌∷◌, ◌++◌, length, take, flat_map, if◌then◌else◌, ⊤}
use Rattle.byteorder.specs.Endian.{big_bytes}
use Rattle.cmh_frames.specs.Number.{IsNumber}
use Rattle.cmh_frames.specs.declared.edition.Edition.{Edition}
use Rattle.cmh_frames.specs.Edition.{number_of}
use Rattle.cmh_frames.specs.declared.frame.Frame.{Frame}
use Rattle.cmh_frames.specs.declared.frame.Frame.TheVariants.{Request, Reply, Probe}
use Rattle.cmh_frames.specs.declared.frame.Front.{Front}
use Rattle.cmh_frames.specs.declared.frame.Front.TheVariants.{Whole, Short, Bad}

-- its numbers are numbers of processes, and the last two differ
abbrev pub IsFrame : Frame → Type 0
IsFrame (Request (asker, holder)) = IsNumber asker × IsNumber holder × (asker ≢ holder)
IsFrame (Reply (holder, asker)) = IsNumber holder × IsNumber asker × (holder ≢ asker)
IsFrame (Probe (origin, from, to)) = IsNumber origin × IsNumber from × IsNumber to × (from ≢ to)

abbrev pub spelling : Frame → List ℕ
spelling (Request (asker, holder)) = 1 ∷ big_bytes 2 asker ++ big_bytes 2 holder
spelling (Reply (holder, asker)) = 2 ∷ big_bytes 2 holder ++ big_bytes 2 asker
spelling (Probe (origin, from, to)) = 3 ∷ big_bytes 2 origin ++ big_bytes 2 from ++ big_bytes 2 to

-- the bytes spell the frame
pub record Spells (bytes : List ℕ) (f : Frame) : Type 0 where
  pub frame : IsFrame f
  pub bytes_are : bytes ≡ spelling f

pub record IsKind (kind : ℕ) : Type 0 where
  pub least : 1 ≤ kind
  pub most : kind ≤ 3

-- no bytes, or a kind with fewer bytes than its spellings have: those of a probe have seven, and the others five
abbrev pub IsShort : List ℕ → Type 0
IsShort [] = ⊤
IsShort (kind ∷ body) = IsKind kind × (length body + 1 < (if kind == 3 then 7 else 5))

-- the bytes begin with the spelling of a frame
pub record BeginsFrame (bytes : List ℕ) : Type 0 where
  pub frame : Frame
  pub behind : List ℕ
  pub is_frame : IsFrame frame
  pub bytes_are : bytes ≡ spelling frame ++ behind

-- what the bytes begin with: a frame's spelling, less than a frame of their kind, or neither
abbrev pub IsFront : List ℕ → Front → Type 0
IsFront bytes (Whole f n) = (n ≤ length bytes) × Spells (take n bytes) f
IsFront bytes Short = IsShort bytes
IsFront bytes Bad = ¬ IsShort bytes × ((f : Frame) (more : List ℕ) → IsFrame f → bytes ≢ spelling f ++ more)

-- ---- a link's bytes

-- "CMH", the edition, and the number of the site that sends
abbrev pub hello : Edition → ℕ → List ℕ
hello edition site = 67 ∷ 77 ∷ 72 ∷ number_of edition ∷ big_bytes 2 site

-- the spellings of frames, in order
abbrev pub spelled : List Frame → List ℕ
spelled frames = flat_map spelling frames

-- what a site writes on a link for these frames
abbrev pub link_bytes : Edition → ℕ → List Frame → List ℕ
link_bytes edition site frames = hello edition site ++ spelled frames
