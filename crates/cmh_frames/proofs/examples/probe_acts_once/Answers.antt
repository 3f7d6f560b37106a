use Rattle.std.proofs.Common.{not, ◌&&◌, [], ◌∷◌, ap, ◌∙◌}
use Rattle.cmh_frames.specs.Rules.{probe_acts}
use Rattle.cmh_frames.proofs.Listed.{has-pairs, has_some-pairs}
use Rattle.cmh_frames.proofs.Scripts.{acts_here, value_is}
use Rattle.cmh_frames.proofs.examples.probe_acts_once.Goals as goal

pub returns-clause-first : goal.returns-clause-first
returns-clause-first c = acts_here

pub returns-clause-again : goal.returns-clause-again
returns-clause-again c = ap (λ v. probe_acts v 1 1 2) value_is
    ∙ (λ n. has_some-pairs ((2, 3) ∷ []) 2 n && (not (has-pairs ((2, 1) ∷ []) 2 1 n) && has-pairs ((2, 1) ∷ (3, 2) ∷ []) 2 1 n))
