use Rattle.std.proofs.Common.{◌≡◌, ℕ, ◌||◌, take}
use Rattle.cmh_model3.specs.Lists.{in_list}
use Rattle.cmh_report3.proofs.declared.insert_all.Given as goal

abbrev pub invariant-loop-process : goal.invariant-loop-process
invariant-loop-process l = (p : ℕ) → in_list l.list p ≡ (in_list (take l.process-index l.processes) p || in_list l.fn.list p)
