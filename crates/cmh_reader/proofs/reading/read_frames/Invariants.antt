use Rattle.std.proofs.Common.{length, ◌-◌}
use Rattle.cmh_reader.proofs.Readings.{ReadSoFar}
use Rattle.cmh_reader.proofs.reading.read_frames.Given as goal

-- what was read so far
abbrev pub invariant-loop-frame : goal.invariant-loop-frame
invariant-loop-frame l = ReadSoFar l.sender l.offset l.fn.frames.items l.bytes l.frames.items l.used

-- the bytes that are left
abbrev pub decreases-loop-frame : goal.decreases-loop-frame
decreases-loop-frame l = length l.bytes - l.used
