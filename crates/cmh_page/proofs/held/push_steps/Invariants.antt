use Rattle.std.proofs.Common.{◌≡◌, ◌++◌}
use Rattle.cmh_page.specs.Held.{first_steps}
use Rattle.cmh_page.proofs.held.push_steps.Given as goal

abbrev pub invariant-loop-entry : goal.invariant-loop-entry
invariant-loop-entry l = l.steps.items ≡ l.initial.steps.items ++ first_steps l.journal l.entry
