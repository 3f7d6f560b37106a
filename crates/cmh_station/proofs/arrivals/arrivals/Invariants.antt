use Rattle.std.proofs.Common.{◌≡◌, length, take, map}
use Rattle.cmh_station.specs.Arrivals.{got_from}
use Rattle.cmh_station.proofs.arrivals.arrivals.Given as goal

abbrev pub invariant-loop-frame : goal.invariant-loop-frame
invariant-loop-frame l = record {
  are : l.events.items ≡ map (got_from l.from) (take l.frame-index l.frames);
  count : length l.events.items ≡ l.frame-index;
}
