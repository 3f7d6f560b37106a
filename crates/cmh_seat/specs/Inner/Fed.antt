-- What an inlet keeps of its reader.
use Rattle.std.specs.Prelude.{ℕ, List}
use Rattle.cmh_frames.specs.declared.frame.Frame.{Frame}
use Rattle.cmh_reader.specs.Reader.{Reader, StandsFor}

-- it was fed some stream
pub record WasFed (reader : Reader) : Type 0 where
  pub stream : List ℕ
  pub frames : List Frame
  pub stands : StandsFor reader stream frames
