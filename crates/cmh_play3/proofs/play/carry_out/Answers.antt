use Rattle.std.proofs.Common.{subst, sym}
use Rattle.std.specs.Prelude.{IfOk}
use Rattle.cmh_script3.specs.declared.script.Command.{Command}
use Rattle.cmh_play3.specs.Held.{Leads}
use Rattle.cmh_play3.specs.World.{CarriesOut}
use Rattle.cmh_play3.proofs.play.carry_out.Goals as goal

pub returns-in-Report : goal.returns-in-Report
returns-in-Report c =
    subst (λ (command : Command). IfOk c.report.result (λ reply. Leads (λ old new. CarriesOut old new command reply) c.args.world.now c.args.world.now))
    (sym c.in-Report.is) c.report.ensures
