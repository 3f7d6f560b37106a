use Rattle.std.proofs.Common.{refl, subst}
use Rattle.cmh_model3.specs.Laws.{JournalFacts}
use Rattle.cmh_controller3.specs.Controller.{Controller, home_of, state_of}
use Rattle.cmh_controller3.proofs.WaysBack.{can_end, leads_back}
use Rattle.cmh_controller3.proofs.controller.Controller.way_back.Goals as goal

pub rows-requires : goal.rows-requires
rows-requires c = can_end c.requires.0 c.args.event.now c.args.prepared.now c.args.self.now c.requires.1

pub returns : goal.returns
returns c = λ old prepares.
    leads_back old c.args.event.now c.args.prepared.now c.args.self.now prepares
    (subst (λ (v : Controller). JournalFacts (home_of v) v.site (state_of v)) c.self.view_is c.self.invariant.facts)
    _ c.in_ok-copy.ensures refl c.in_ok-rows.ensures
