use Rattle.std.proofs.Common.{take, ◌≤◌, length}
use Rattle.std.specs.List.{AllByRecursion}
use Rattle.cmh_topology3.specs.Topology.{sites_of, members_of}
use Rattle.cmh_draw3.proofs.waiting.height_of.Given as goal

abbrev pub invariant-loop-site : goal.invariant-loop-site
invariant-loop-site l = AllByRecursion (λ site. length (members_of l.topology site) ≤ l.height) (take l.site-index (sites_of l.topology))
