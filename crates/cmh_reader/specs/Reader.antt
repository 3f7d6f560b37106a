-- A reader: what it expects, what the stream that it was fed has come to, and whether memory was ever refused to it.
use Rattle.std.specs.Prelude.{◌≡◌, ℕ, Bool, false, List, [], ◌++◌}
use Rattle.cmh_frames.specs.declared.edition.Edition.{Edition}
use Rattle.cmh_frames.specs.declared.frame.Frame.{Frame}
use Rattle.cmh_reader.specs.declared.standing.Standing.{Standing}
use Rattle.cmh_reader.specs.declared.standing.Standing.TheVariants.{Greeting}
use Rattle.cmh_reader.specs.Stream.{Reads, Splits}

pub record Reader : Type 0 where
  pub edition : Edition
  pub senders : List ℕ
  pub standing : Standing
  pub starved : Bool

-- a reader that was fed nothing
abbrev pub fresh : Edition → List ℕ → Reader
fresh edition senders = record { edition = edition; senders = senders; standing = Greeting []; starved = false }

-- The bytes that the reader was fed are this stream, whose frames are these.
abbrev pub StandsFor : Reader → List ℕ → List Frame → Type 0
StandsFor reader stream frames = Reads reader.edition reader.senders stream frames reader.standing

-- Whatever stream the old reader stands for, the new one stands for it and the piece after it, with these frames more.
abbrev pub Takes : Reader → Reader → List ℕ → List Frame → Type 0
Takes old new piece given = (stream : List ℕ) (frames : List Frame) → StandsFor old stream frames → StandsFor new
    (stream ++ piece) (frames ++ given)

-- the readers expect the same
pub record ExpectsSame (old new : Reader) : Type 0 where
  pub edition : new.edition ≡ old.edition
  pub senders : new.senders ≡ old.senders

-- The bytes are a beginning of what an expected site writes for these frames.
abbrev pub BeginsLink : Edition → List ℕ → List ℕ → List Frame → Type 0
BeginsLink edition senders bytes sent =
    (site : ℕ) × (later : List ℕ) × Splits edition senders (bytes ++ later) site sent []
