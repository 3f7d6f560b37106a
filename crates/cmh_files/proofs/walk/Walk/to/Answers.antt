use Rattle.std.proofs.Common.{arith}
use Rattle.cmh_files.proofs.WalkLemmas.{step_on}
use Rattle.cmh_files.proofs.walk.Walk.to.Goals as goal

pub loop-preserved : goal.loop-preserved
loop-preserved c =
    let here = c.loop-test.true in
    let all = c.requires in
    step_on c.args.journal.now c.loop.counter c.loop.walk c.step.new.self c.in_ok-step.field-0 c.in_ok-step.ensures (omega (arith, here, all)) c.loop.invariant
