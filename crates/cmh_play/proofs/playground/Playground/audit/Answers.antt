use Rattle.std.proofs.Common.{Bool, List, sym, subst}
use Rattle.std.proofs.lemmas.Result.{IfOk-weaker}
use Rattle.cmh_frames.specs.Topology.{Topology}
use Rattle.cmh_journal.specs.Journal.{Journal}
use Rattle.cmh_audit.specs.Totals.{AreTotalsOfRun}
use Rattle.cmh_audit.specs.Verdicts.{IsVerdictOn}
use Rattle.cmh_audit.specs.declared.verdict.Verdict.{Verdict}
use Rattle.cmh_play.specs.Held.{Held, Shows}
use Rattle.cmh_play.specs.Runs.{IsPlayed}
use Rattle.cmh_play.specs.World.{World}
use Rattle.cmh_play.proofs.Shown.{totals_of_run}
use Rattle.cmh_play.proofs.playground.Playground.audit.Goals as goal

pub returns : goal.returns
returns c =
    let held : Held = record { topology = c.self.inside.topology; controllers = c.self.inside.controllers.items; history = c.self.inside.history; links = c.self.inside.links } in
    IfOk-weaker c.verdict.result (λ (v : Verdict). (journals : List Journal) → AreTotalsOfRun held.topology journals held.history.totals → IsVerdictOn held.topology journals v)
    (λ (v : Verdict). (keeps : Bool) (world : World) → Shows keeps world c.args.self.now → IsPlayed world → IsVerdictOn world.topology world.journals v)
    (λ v each keeps world shown played.
    let shows : Shows keeps world held = subst (λ (h : Held). Shows keeps world h) (sym c.self.view_is) shown in
    let P : Topology → Type 0 = λ t. AreTotalsOfRun t world.journals held.history.totals in
    let Q : Topology → Type 0 = λ t. IsVerdictOn t world.journals v in
    subst Q shows.topology (each world.journals (subst P (sym shows.topology) (totals_of_run keeps world held shows played))))
    c.verdict.ensures
