use Rattle.std.proofs.Common.{codes, take}
use Rattle.std.specs.Fmt.{HasWritten, IsPlainFormatter}
use Rattle.std.specs.List.{flat_map}
use Rattle.cmh_files.specs.AuditTexts.{pair_text}
use Rattle.cmh_files.proofs.audit_text.CutsDisplay.fmt.Given as goal

abbrev pub invariant-loop-site : goal.invariant-loop-site
invariant-loop-site g l =
    IsPlainFormatter l.initial.f → HasWritten g.W.Write.write_str_gives l.initial.f (flat_map (pair_text (codes "cut ") (codes " ")) (take l.site-index l.initial.self.cuts.now)) l.f
