use Rattle.std.proofs.Common.{refl, subst}
use Rattle.cmh_console.specs.declared.dialogue.Flow.{Flow}
use Rattle.cmh_cluster.proofs.ClusterEndings.{run_err, setting_err, unread_back, write_err}
use Rattle.cmh_cluster.proofs.cluster.cluster_into.Goals as goal
use Rattle.cmh_cluster.specs.ClusterEndings.{HasPlayed}

pub returns-in_err-setting-clause-fault : goal.returns-in_err-setting-clause-fault
returns-in_err-setting-clause-fault g c =
    setting_err _ _ _ _ _ c.from_residual.result c.in_err-setting.field-0.0 c.from_residual.ensures.1 c.in_err-setting.ensures.fault refl

pub returns-in_err-run_sites-clause-fault : goal.returns-in_err-run_sites-clause-fault
returns-in_err-run_sites-clause-fault g c =
    run_err _ _ _ _ _ c.from_residual-in_err-run_sites.result c.in_ok-setting.setting.world c.in_err-run_sites.field-0.0
    c.in_ok-setting.ensures.world c.from_residual-in_err-run_sites.ensures.1 c.in_err-run_sites.ensures.fault

pub returns-in_err-say_not_settled-in-Ends-clause-fault : goal.returns-in_err-say_not_settled-in-Ends-clause-fault
returns-in_err-say_not_settled-in-Ends-clause-fault g c =
    write_err _ _ _ _ _ c.from_residual-in_err-say_not_settled-in-Ends.result c.from_residual-in_err-say_not_settled-in-Ends.ensures.1
    c.in_err-say_not_settled-in-Ends.ensures.fault

pub returns-in_err-read_back-in-Awaits-clause-fault : goal.returns-in_err-read_back-in-Awaits-clause-fault
returns-in_err-read_back-in-Awaits-clause-fault g c =
    let world = c.in_ok-setting.setting.world in
    unread_back _ _ world _ _ _ c.from_residual-in_err-read_back-in-Awaits.result c.in_err-read_back-in-Awaits.field-0.0 c.in_ok-setting.ensures.world
    (subst (λ (flow : Flow). HasPlayed world c.args.start.now.script.now c.args.out.now.written c.run_sites.new.out.written flow) c.in-Awaits.is c.in_ok-run_sites.ensures.played)
    c.from_residual-in_err-read_back-in-Awaits.ensures.1

pub returns-clause-played : goal.returns-clause-played
returns-clause-played g c =
    let world = c.in_ok-setting.setting.world in (
      (
        world,
        c.in_ok-setting.ensures.world,
        (
          c.run_sites.new.out.written,
          subst (λ (flow : Flow). HasPlayed world c.args.start.now.script.now c.args.out.now.written c.run_sites.new.out.written flow) c.in-Ends.is c.in_ok-run_sites.ensures.played,
          c.in_ok-say_not_settled-in-Ends.ensures.said,
        ),
      ),
      c.in_ok-say_not_settled-in-Ends.ensures.flushed,
    )
