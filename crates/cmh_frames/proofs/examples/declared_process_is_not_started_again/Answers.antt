use Rattle.std.proofs.Common.{◌≡◌, true, false, nat_cmp, [], ◌∷◌, refl, sym, ◌∙◌, subst, true≢false}
use Rattle.std.specs.FinSet as set
use Rattle.std.specs.Cmp.{nat_cmp_total}
use Rattle.cmh_frames.specs.declared.edition.Edition.TheVariants.{One}
use Rattle.cmh_frames.specs.Rules.{Accepts}
use Rattle.cmh_frames.specs.Runs.{state_of}
use Rattle.cmh_frames.specs.Scripts.{one_site, wait_for_each_other}
use Rattle.cmh_frames.proofs.Listed.{has_some-pairs}
use Rattle.cmh_frames.proofs.examples.declared_process_is_not_started_again.Goals as goal

-- 1 is declared
declared : set.contains {R = nat_cmp} (set.insert set.empty 1) 1 ≡ true
declared = set.contains-insert nat_cmp_total set.empty 1 1

-- 2 is not
not_declared : set.contains {R = nat_cmp} (set.insert set.empty 1) 2 ≡ false
not_declared = set.contains-insert nat_cmp_total set.empty 1 2 ∙ set.contains-empty nat_cmp 2

pub returns-clause-refused : goal.returns-clause-refused
returns-clause-refused c accepted = true≢false (sym declared ∙ accepted.2)

pub returns-clause-no_run : goal.returns-clause-no_run
returns-clause-no_run c entry is run = true≢false (sym declared ∙ (subst (Accepts (one_site One) 1 (state_of (one_site One) 1 wait_for_each_other)) is (run.lawful 1).2.2.2.0).2)

pub returns-clause-other : goal.returns-clause-other
returns-clause-other c = (refl, has_some-pairs ((2, 1) ∷ (1, 2) ∷ []) 2, not_declared)
