use Rattle.std.proofs.Common.{◌≡◌, take, map}
use Rattle.std.specs.List.{AllByRecursion}
use Rattle.cmh_frames.specs.Rows.{Row}
use Rattle.cmh_frames.specs.Inner.Kept.{HasMembersOf}
use Rattle.cmh_topology3.proofs.topology.rows_of.Given as goal

-- the rows of the sites so far
abbrev pub invariant-loop-site : goal.invariant-loop-site
invariant-loop-site l = record {
  sites_are : map (λ (row : Row). row.0) l.rows.items ≡ take l.site-index l.sites;
  members_are : AllByRecursion (HasMembersOf l.given) l.rows.items;
}
