use Rattle.std.proofs.Common.{◌≡◌, ◌+◌, [], ◌∷◌, ◌++◌, drop}
use Rattle.cmh_draw.specs.Each.{each_from}
use Rattle.cmh_draw.specs.Inner.Marks as inner
use Rattle.cmh_frames.specs.Entries.{Entry}
use Rattle.cmh_draw.proofs.running.add_entries.Given as goal

abbrev pub invariant-loop-i : goal.invariant-loop-i
invariant-loop-i l =
    l.marks.items ++ each_from (λ number (e : Entry). inner.entry_mark l.run.columns.now l.line.row l.line.site number e ∷ []) (l.i + 1) (drop l.i l.entries)
    ≡ l.fn.marks.items ++ inner.entry_marks l.run.columns.now l.line.row l.line.site l.entries
