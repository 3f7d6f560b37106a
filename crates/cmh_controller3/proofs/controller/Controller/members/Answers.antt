use Rattle.std.proofs.Common.{subst}
use Rattle.cmh_controller3.specs.Readings.{HasFacts}
use Rattle.cmh_controller3.specs.contracts.controller.Controller.{the_view}
use Rattle.cmh_controller3.proofs.Readings.{has_facts}
use Rattle.cmh_controller3.proofs.controller.Controller.members.Goals as goal

pub returns-clause-facts : goal.returns-clause-facts
returns-clause-facts c = subst HasFacts c.self.view_is (has_facts (the_view c.self.inside) c.self.invariant c.sites.ensures.well_formed)
