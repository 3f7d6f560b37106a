use Rattle.std.proofs.Common.{[], ◌∷◌, refl, take, drop, None}
use Rattle.cmh_frames.specs.declared.edition.Edition.TheVariants.{One}
use Rattle.cmh_frames.specs.declared.frame.Frame.TheVariants.{Probe}
use Rattle.cmh_frames.specs.declared.event.Event.TheVariants.{Got}
use Rattle.cmh_frames.specs.Scripts.{two_sites, at_site, outcome, probe_goes_round}
use Rattle.cmh_frames.proofs.Journals.{run_front}
use Rattle.cmh_frames.proofs.Scripts.{probe_run}
use Rattle.cmh_frames.proofs.examples.deliveries_come_to_an_end.Goals as goal

pub returns-clause-goes_on : goal.returns-clause-goes_on
returns-clause-goes_on c = record { run = probe_run; deliveries = (refl, (refl, tt)) }

pub returns-clause-not_settled : goal.returns-clause-not_settled
returns-clause-not_settled c settled =
    settled (at_site 2 (outcome (Got 1 (Probe (1, 1, 2))) ((1, Probe (1, 2, 1)) ∷ []) None)) refl (run_front (two_sites One) (take 6 probe_goes_round) (drop 6 probe_goes_round) probe_run)
