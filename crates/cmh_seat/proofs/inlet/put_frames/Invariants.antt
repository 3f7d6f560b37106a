use Rattle.std.proofs.Common.{drop}
use Rattle.cmh_frames.specs.Wire.{spelled}
use Rattle.cmh_seat.proofs.Puts.{HasPut}
use Rattle.cmh_seat.proofs.inlet.put_frames.Given as goal

-- what stands there is followed by what stood there before, and what is left completes the spelling
abbrev pub invariant-loop-frame : goal.invariant-loop-frame
invariant-loop-frame l = HasPut l.fn.out (spelled l.frames) l.out l.at (spelled (drop l.frame-index l.frames))
