use Rattle.std.proofs.Common.{◌∙◌}
use Rattle.cmh_host.proofs.Leading.{taps_lead}
use Rattle.cmh_host.proofs.starting.open_station.Goals as goal

pub returns-in-Some-clause-to : goal.returns-in-Some-clause-to
returns-in-Some-clause-to g c = taps_lead _ _ _ c.in-Ok.ensures.taps (λ link tap same. same.to) ∙ c.in-Ok.ensures.to
