-- What a step of reading a message looks for.
use Rattle.std.specs.Prelude.{◌≡◌, ℕ}
use Rattle.cmh_model3.specs.declared.frame.Frame.{Frame}
use Rattle.cmh_wire3.specs.Wire.{IsFrame, kind_of}

-- a frame of this kind
pub record IsFrameOf (kind : ℕ) (frame : Frame) : Type 0 where
  pub is_frame : IsFrame frame
  pub kind_is : kind_of frame ≡ kind
