use Rattle.std.proofs.Common.{◌≡◌, drop}
use Rattle.cmh_frames.specs.Inner.Kept.{members_in}
use Rattle.cmh_topology3.proofs.topology.members_in.Given as goal

-- what is left says which processes the site has
abbrev pub invariant-loop-row : goal.invariant-loop-row
invariant-loop-row l = members_in (drop l.row-index l.rows) l.site ≡ members_in l.rows l.site
