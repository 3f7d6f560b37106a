use Rattle.std.proofs.Common.{take}
use Rattle.cmh_topology3.specs.Topology.{site_of}
use Rattle.cmh_bases3.specs.Bases.{OweWhoWaits}
use Rattle.cmh_bases3.proofs.replies.owe_who_waits.Given as goal

-- it holds of the waits so far
abbrev pub invariant-loop-wait : goal.invariant-loop-wait
invariant-loop-wait l = OweWhoWaits (site_of l.topology) l.site l.owed (take l.wait-index l.waits)
