use Rattle.std.proofs.Common.{List, ℕ, subst, false, ◌≡◌}
use Rattle.cmh_frames.specs.Rows.{repeats}
use Rattle.cmh_history3.proofs.Queueing.{rise_distinct}
use Rattle.cmh_history3.proofs.Turning.{turns_lead}
use Rattle.cmh_history3.proofs.turns.turn_law.Goals as goal

pub returns : goal.returns
returns c end epoch next follow =
    turns_lead c.args.topology.now end epoch next follow (subst (λ (sites : List ℕ). repeats sites ≡ false) c.sites.ensures.value (rise_distinct c.sites.result.now c.sites.ensures.ascending))
