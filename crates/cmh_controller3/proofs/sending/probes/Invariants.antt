use Rattle.std.proofs.Common.{◌≡◌, ◌++◌, take, map}
use Rattle.cmh_model3.specs.Rules.{probe_along}
use Rattle.cmh_topology3.specs.Topology.{site_of}
use Rattle.cmh_controller3.proofs.sending.probes.Given as goal

-- the probes so far were added
abbrev pub invariant-loop-from : goal.invariant-loop-from
invariant-loop-from l = l.sent.items ≡ l.fn.sent.items ++ map (probe_along (site_of l.topology) l.clock l.ask.origin l.ask.stamp) (take l.from-index l.edges)
