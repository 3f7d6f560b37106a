use Rattle.std.proofs.Common.{ℕ, List, [], Option, ap, unwrap_or}
use Rattle.cmh_commands.proofs.RestoreLemmas.{restored_from}
use Rattle.cmh_commands.proofs.restoring.restore.Goals as goal

pub returns-clause-restored : goal.returns-clause-restored
returns-clause-restored g c = λ ok.
    restored_from (ap (λ (found : Option (List (List ℕ))). unwrap_or found []) c.in-Some.ensures) (c.run_restore.ensures.restored ok)
