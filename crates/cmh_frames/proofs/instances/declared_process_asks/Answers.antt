use Rattle.std.proofs.Common.{◌≡◌, true, nat_cmp, [], ◌∷◌, refl, sym, ap, inl, inr, None, Some, if◌then◌else◌}
use Rattle.std.specs.FinSet as set
use Rattle.std.specs.Cmp.{nat_cmp_total}
use Rattle.cmh_frames.specs.declared.edition.Edition.TheVariants.{Two}
use Rattle.cmh_frames.specs.declared.frame.Frame.TheVariants.{Probe}
use Rattle.cmh_frames.specs.Scripts.{beside_in}
use Rattle.cmh_frames.proofs.Listed.{has-pairs}
use Rattle.cmh_frames.proofs.Scripts.{two_not_one, not_on_itself, one_probe}
use Rattle.cmh_frames.proofs.instances.declared_process_asks.Goals as goal

-- 3 is declared
declared : set.contains {R = nat_cmp} (set.insert set.empty 3) 3 ≡ true
declared = set.contains-insert nat_cmp_total set.empty 3 3

pub returns-clause-probes : goal.returns-clause-probes
returns-clause-probes c =
    ((2, Probe (3, 3, 2)) ∷ [], refl, inr (not_on_itself (beside_in Two) 1 2 3 2 refl refl two_not_one, one_probe (beside_in Two) 1 2 3 2 refl refl two_not_one 3, refl))

pub returns-clause-not_again : goal.returns-clause-not_again
returns-clause-not_again c = (
  [],
  refl,
  inl ((1, (refl, refl, has-pairs ((3, 1) ∷ (1, 3) ∷ []) 3 1), (refl, (3 ∷ [], ((refl, refl, has-pairs ((3, 1) ∷ (1, 3) ∷ []) 1 3), refl)))), refl, ap (λ z. if z then None else Some 3) (sym declared)),
)
