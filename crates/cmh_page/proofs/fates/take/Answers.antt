use Rattle.std.proofs.Common.{◌∙◌, ap}
use Rattle.cmh_page.proofs.FateLemmas.{settled_is}
use Rattle.cmh_page.specs.Inner.Settled.{settled}
use Rattle.cmh_page.proofs.fates.take.Goals as goal

pub returns-clause-fate : goal.returns-clause-fate
returns-clause-fate c =
    c.settled.ensures
    ∙ ap (λ reason. settled c.args.event.now reason c.in-Ok.prepared.acted) c.first_reason-reason.ensures
    ∙ settled_is c.args.controller.now _ c.args.event.now c.in-Ok.prepared c.in-Ok.ensures.ok
