use Rattle.std.proofs.Common.{◌≡◌, map, take}
use Rattle.std.specs.List.{AllByRecursion}
use Rattle.cmh_report3.specs.declared.cycle.Deadlock.{Deadlock}
use Rattle.cmh_report3.specs.Reports.{IsTold}
use Rattle.cmh_report3.proofs.report.declared_of.Given as goal

abbrev pub invariant-loop-process : goal.invariant-loop-process
invariant-loop-process l = record {
  names : map (λ (d : Deadlock). d.process) l.all.items ≡ take l.process-index l.process-items;
  told : AllByRecursion (IsTold l.events) l.all.items;
}
