use Rattle.std.proofs.Common.{◌≡◌, ◌++◌, drop}
use Rattle.cmh_model3.specs.Rules.{withdraws}
use Rattle.cmh_topology3.specs.Topology.{site_of}
use Rattle.cmh_controller3.proofs.sending.withdraws.Given as goal

-- what is there and what is to come are all of them
abbrev pub invariant-loop-target : goal.invariant-loop-target
invariant-loop-target l =
    l.sent.items ++ withdraws (site_of l.topology) l.site l.clock l.asker (drop l.target-index l.targets) ≡ withdraws (site_of l.topology) l.site l.clock l.asker l.targets
