use Rattle.std.proofs.Common.{take}
use Rattle.std.specs.Fmt.{HasWritten, IsPlainFormatter}
use Rattle.std.specs.List.{flat_map}
use Rattle.cmh_audit.specs.Reports.{cycle_of}
use Rattle.cmh_files.specs.AuditTexts.{deadlock_text}
use Rattle.cmh_files.proofs.audit_text.DeadlocksDisplay.fmt.Given as goal

abbrev pub invariant-loop-process : goal.invariant-loop-process
invariant-loop-process g l =
    IsPlainFormatter l.initial.f
    → HasWritten g.W.Write.write_str_gives l.initial.f
    (flat_map (λ process. deadlock_text process (cycle_of l.initial.self.report.now process)) (take l.process-index l.initial.self.report.now.declared)) l.f
