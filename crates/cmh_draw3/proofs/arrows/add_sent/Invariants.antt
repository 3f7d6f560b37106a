use Rattle.std.proofs.Common.{◌≡◌, ◌+◌, ◌++◌, drop}
use Rattle.cmh_draw.specs.Arrows.{spot_of}
use Rattle.cmh_draw3.specs.Arrows as spec
use Rattle.cmh_draw.specs.Each.{each_from}
use Rattle.cmh_draw3.specs.Inner.Ways as inner
use Rattle.cmh_segment3.specs.declared.entry.Entry.{Entry}
use Rattle.cmh_draw3.proofs.arrows.add_sent.Given as goal

abbrev pub invariant-loop-i : goal.invariant-loop-i
invariant-loop-i l =
    l.all.items ++ each_from (λ number (e : Entry). inner.sent_by l.run.topology.now l.way (spot_of l.run.columns.now l.from.row l.from.site number) e.sent) (l.i + 1) (drop l.i l.entries)
    ≡ l.fn.all.items ++ spec.sent_where (inner.is_on l.run.topology.now l.way) (spot_of l.run.columns.now l.from.row l.from.site) l.entries
