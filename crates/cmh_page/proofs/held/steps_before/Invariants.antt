use Rattle.std.proofs.Common.{◌≡◌, take}
use Rattle.cmh_page.specs.Held.{steps_before}
use Rattle.cmh_page.proofs.held.steps_before.Given as goal

abbrev pub invariant-loop-place : goal.invariant-loop-place
invariant-loop-place l = l.steps.items ≡ steps_before l.stops l.journals 0 (take l.place l.journals)
