use Rattle.std.proofs.Common.{◌≡◌, drop}
use Rattle.cmh_segment3.specs.States.{stamp_of}
use Rattle.cmh_bases3.proofs.stamped.stop_of.Given as goal

-- what is left says the stop of the process
abbrev pub invariant-loop-row : goal.invariant-loop-row
invariant-loop-row l = stamp_of (drop l.row-index l.stops) l.process ≡ stamp_of l.stops l.process
