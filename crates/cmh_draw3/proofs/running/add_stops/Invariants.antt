use Rattle.std.proofs.Common.{◌≡◌, ◌++◌, drop, map}
use Rattle.cmh_draw3.specs.Inner.Marks.{stop_mark}
use Rattle.cmh_draw3.proofs.running.add_stops.Given as goal

abbrev pub invariant-loop-stop : goal.invariant-loop-stop
invariant-loop-stop l =
    l.marks.items ++ map (stop_mark l.topology l.columns) (drop l.stop-index l.stops)
    ≡ l.fn.marks.items ++ map (stop_mark l.topology l.columns) l.stops
