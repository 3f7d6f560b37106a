use Rattle.std.proofs.Common.{◌≡◌, drop}
use Rattle.cmh_node3.specs.Links.{link_at}
use Rattle.cmh_node3.proofs.links.row_of.Given as goal

-- no link so far is that of the site
abbrev pub invariant-loop-link : goal.invariant-loop-link
invariant-loop-link l = link_at (drop l.link-index l.links) l.site ≡ link_at l.links l.site
