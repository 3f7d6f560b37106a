use Rattle.std.specs.Prelude.{◌≡◌}
use Rattle.cmh_cluster3.proofs.Talking.{HasTalked}
use Rattle.cmh_cluster3.proofs.cluster.answer_all.Given as goal
use Rattle.cmh_cluster3.specs.Turns.{IsTurn, Sites}

abbrev pub invariant-loop-turn : goal.invariant-loop-turn
invariant-loop-turn g l =
    HasTalked (Sites g.F.SegmentFile.told g.F.SegmentFile.has_failed) (IsTurn g.F.SegmentFile.told g.F.SegmentFile.has_failed l.initial.cluster.topology.now)
    l.initial.cluster.world.nodes.items l.initial.input.left l.input.left
    l.initial.out.written l.out.written l.cluster.world.nodes.items l.turn × (l.cluster.topology ≡ l.initial.cluster.topology)
