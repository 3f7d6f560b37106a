use Rattle.std.proofs.Common.{[], ◌∷◌, refl, arith}
use Rattle.cmh_frames.proofs.Listed.{has-pairs}
use Rattle.cmh_frames.proofs.instances.frames_from_another_home.Goals as goal

pub returns-clause-request : goal.returns-clause-request
returns-clause-request c = (λ e. omega (arith, e), refl, refl, has-pairs [] 2 1)

pub returns-clause-reply : goal.returns-clause-reply
returns-clause-reply c = (λ e. omega (arith, e), refl, refl, has-pairs ((2, 1) ∷ []) 2 1)
