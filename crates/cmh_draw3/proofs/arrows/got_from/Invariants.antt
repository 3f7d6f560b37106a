use Rattle.std.proofs.Common.{◌≡◌, ◌+◌, ◌++◌, drop}
use Rattle.cmh_draw3.specs.Arrows as spec
use Rattle.cmh_draw.specs.Each.{each_from}
use Rattle.cmh_segment3.specs.declared.entry.Entry.{Entry}
use Rattle.cmh_draw3.proofs.arrows.got_from.Given as goal

abbrev pub invariant-loop-i : goal.invariant-loop-i
invariant-loop-i l =
    l.all.items ++ each_from (λ number (e : Entry). spec.number_if l.site number e.event) (l.i + 1) (drop l.i l.entries)
    ≡ spec.got_from l.site l.entries
