-- Short names of parts of `IsFront` and of `Reads`.
use Rattle.std.specs.Prelude.{ℕ, ◌≢◌, ◌==◌, ◌++◌, List, if◌then◌else◌}
use Rattle.cmh_frames.specs.declared.frame.Frame.{Frame}
use Rattle.cmh_frames.specs.Wire.{IsFrame, spelling, hello}
use Rattle.cmh_frames.specs.Number.{IsNumber}
use Rattle.cmh_frames.specs.declared.edition.Edition.{Edition}

-- how long the spellings of a kind are
abbrev pub length_of_kind : ℕ → ℕ
length_of_kind kind = if kind == 3 then 7 else 5

-- the bytes begin with no spelling
abbrev pub BeginsNoFrame : List ℕ → Type 0
BeginsNoFrame bytes = (f : Frame) (more : List ℕ) → IsFrame f → bytes ≢ spelling f ++ more

-- the stream begins with the hello of no site
abbrev pub BeginsNoHello : Edition → List ℕ → Type 0
BeginsNoHello edition stream = (site : ℕ) (behind : List ℕ) → IsNumber site → stream ≢ hello edition site ++ behind
