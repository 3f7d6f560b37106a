use Rattle.std.specs.Prelude.{◌≡◌}
use Rattle.cmh_console.proofs.Dialogues.{HasTalked}
use Rattle.cmh_cluster.proofs.cluster.Cluster.answer_all.Given as goal
use Rattle.cmh_cluster.specs.ClusterTalk.{IsTurnOfCluster}

abbrev pub invariant-loop-turn : goal.invariant-loop-turn
invariant-loop-turn g l =
    HasTalked (Unit {0}) (IsTurnOfCluster l.initial.self.topology.now) tt l.initial.input.left l.input.left
    l.initial.out.written l.out.written tt l.turn × (l.self.topology ≡ l.initial.self.topology)
