use Rattle.cmh_dependents.proofs.Known.{known_start}
use Rattle.cmh_dependents.proofs.dependent_sets.DependentSets.new.Goals as goal

pub invariant_of-result : goal.invariant_of-result
invariant_of-result c = known_start c.new.result.items c.new-2.result.items c.empty.result c.new.ensures.items c.new-2.ensures.items
