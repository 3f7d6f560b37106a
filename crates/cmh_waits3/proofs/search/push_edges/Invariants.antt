use Rattle.std.proofs.Common.{◌≡◌, ◌++◌, take}
use Rattle.cmh_waits3.proofs.Edges.{edges_from}
use Rattle.cmh_waits3.proofs.search.push_edges.Given as goal

-- those of the waits so far were added
abbrev pub invariant-loop-wait : goal.invariant-loop-wait
invariant-loop-wait l = l.edges.items ≡ l.fn.edges.items ++ edges_from l.waits l.stamp l.origin l.asker (take l.wait-index l.away)
