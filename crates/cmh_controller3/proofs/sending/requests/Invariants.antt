use Rattle.std.proofs.Common.{◌≡◌, ◌++◌, drop}
use Rattle.cmh_model3.specs.Rules.{requests}
use Rattle.cmh_topology3.specs.Topology.{site_of}
use Rattle.cmh_controller3.proofs.sending.requests.Given as goal

-- what is there and what is to come are all of them
abbrev pub invariant-loop-target : goal.invariant-loop-target
invariant-loop-target l =
    l.sent.items ++ requests (site_of l.topology) l.site l.clock l.asker (drop l.target-index l.targets) ≡ requests (site_of l.topology) l.site l.clock l.asker l.targets
