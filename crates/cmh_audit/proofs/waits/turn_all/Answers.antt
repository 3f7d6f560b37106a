use Rattle.std.proofs.Common.{◌+◌, take, if◌then◌else◌, ◌==◌}
use Rattle.cmh_frames.specs.Laws.{count_of}
use Rattle.cmh_audit.specs.Inner.Turns.{one_at}
use Rattle.cmh_audit.proofs.TurnLemmas.{turns_more, targets_more}
use Rattle.cmh_audit.proofs.waits.turn_all.Goals as goal

pub loop-target-preserved : goal.loop-target-preserved
loop-target-preserved c =
    turns_more c.args.waits.now c.loop-target.waits c.turn.new.self (λ j k. if c.args.asker == j then count_of (λ q. q == k) (take c.loop-target.target-index c.args.targets.now) else 0) (one_at c.args.asker c.target-item.result)
    (λ j k. if c.args.asker == j then count_of (λ q. q == k) (take (c.loop-target.target-index + 1) c.args.targets.now) else 0)
    c.loop-target.invariant c.in_ok-turn.ensures.ok (targets_more c.args.asker c.args.targets.now c.loop-target.target-index c.target-item.result c.loop-target-test.true c.target-item.is)
