use Rattle.std.proofs.Common.{Some, subst}
use Rattle.cmh_console.specs.declared.dialogue.Flow.TheVariants.{Ends}
use Rattle.cmh_cluster.proofs.ClusterEndings.{answered, played_to_one, run_fault_at, start_fault_err}
use Rattle.cmh_cluster.proofs.cluster.Cluster.play.Goals as goal
use Rattle.cmh_cluster.specs.ClusterEndings.{Answered, HasPlayed, IsRunFault}

pub returns-in_err-start_all-clause-fault : goal.returns-in_err-start_all-clause-fault
returns-in_err-start_all-clause-fault g c =
    start_fault_err _ _ _ _ c.from_residual.result c.in_err-start_all.field-0.0 c.from_residual.ensures.1 c.in_err-start_all.ensures.fault

pub returns-in_ok-write_closed-in-Ok-Awaits-clause-played : goal.returns-in_ok-write_closed-in-Ok-Awaits-clause-played
returns-in_ok-write_closed-in-Ok-Awaits-clause-played g c =
    let old = c.args.out.now.written in
    let new = c.write_closed.new.out.written in
    subst (λ t. Answered t.now c.args.script.now old new) c.start_all.ensures.topology
    (answered c.start_all.new.self.topology.now c.args.script.now old _ new _ c.answer_all.result c.in-Ok-Awaits.field-0 c.in-Ok-Awaits.is c.in-Ok-Awaits.field-0-is
    (rw c.new-input.ensures.left at c.answer_all.ensures.answers) c.in_ok-write_closed-in-Ok-Awaits.ensures.closed)

pub returns-in-Ok-Ends-clause-played : goal.returns-in-Ok-Ends-clause-played
returns-in-Ok-Ends-clause-played g c =
    let old = c.args.out.now.written in
    let new = c.answer_all.new.out.written in
    subst (λ t. HasPlayed t.now c.args.script.now old new Ends) c.start_all.ensures.topology
    (played_to_one c.start_all.new.self.topology.now c.args.script.now old new _ c.answer_all.result c.in-Ok-Ends.field-0 c.in-Ok-Ends.is c.in-Ok-Ends.field-0-is
    (rw c.new-input.ensures.left at c.answer_all.ensures.answers))

pub returns-in-Err : goal.returns-in-Err
returns-in-Err g c =
    let old = c.args.out.now.written in
    let new = c.answer_all.new.out.written in
    let failed = c.answer_all.new.out.has_failed in
    record {
      played = tt;
      fault = subst (λ t. IsRunFault t.now c.args.script.now old new failed c.from.result) c.start_all.ensures.topology
          (run_fault_at c.start_all.new.self.topology.now c.args.script.now old new failed (Some c.args.script.now) c.answer_all.new.input.has_failed c.answer_all.result c.in-Err.fault c.from.result c.in-Err.is c.from.ensures
          (rw c.new-input.ensures.left at c.answer_all.ensures.answers) (rw c.new-input.ensures.left at c.answer_all.ensures.fault));
    }
