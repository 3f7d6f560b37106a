use Rattle.std.proofs.Common.{◌≡◌, map, take}
use Rattle.cmh_merge.specs.Walks.{lefts_of}
use Rattle.cmh_segment3.specs.Entries.{step_of}
use Rattle.cmh_audit3.specs.Inner.Survey.{stop_at, stops_at}
use Rattle.cmh_audit3.proofs.stops.stops_of.Given as goal

-- the stops of the sites so far
abbrev pub invariant-loop-site : goal.invariant-loop-site
invariant-loop-site l = l.stops.items ≡ stops_at (stop_at l.segments l.limits (lefts_of (λ w. map step_of w) l.walks)) (take l.site-index l.sites)
