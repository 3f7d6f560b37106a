use Rattle.std.proofs.Common.{◌≡◌, ◌++◌, drop, map}
use Rattle.cmh_draw.specs.Inner.Marks.{stop_mark}
use Rattle.cmh_draw.proofs.running.add_stops.Given as goal

abbrev pub invariant-loop-site : goal.invariant-loop-site
invariant-loop-site l =
    l.marks.items ++ map (stop_mark l.topology l.columns) (drop l.site-index l.stops)
    ≡ l.fn.marks.items ++ map (stop_mark l.topology l.columns) l.stops
