use Rattle.std.proofs.Common.{◌≡◌, ◌+◌, [], ◌∷◌, ◌++◌, drop}
use Rattle.cmh_draw.specs.Each.{each_from}
use Rattle.cmh_draw3.specs.Inner.Marks as inner
use Rattle.cmh_segment3.specs.declared.entry.Entry.{Entry}
use Rattle.cmh_draw3.proofs.running.add_entries.Given as goal

abbrev pub invariant-loop-i : goal.invariant-loop-i
invariant-loop-i l =
    l.marks.items ++ each_from (λ number (e : Entry). inner.entry_mark l.run.columns.now l.finding l.line.row l.line.site number e ∷ []) (l.i + 1) (drop l.i l.entries)
    ≡ l.fn.marks.items ++ inner.entries_marks l.run.columns.now l.finding l.line.row l.line.site l.entries
