use Rattle.std.proofs.Common.{◌≡◌, [], ◌∷◌, ◌++◌, drop}
use Rattle.cmh_draw.specs.Each.{each_from}
use Rattle.cmh_draw3.specs.Inner.Marks as inner
use Rattle.cmh_draw3.proofs.waiting.add_processes.Given as goal

abbrev pub invariant-loop-row : goal.invariant-loop-row
invariant-loop-row l =
    l.marks.items ++ each_from (λ row process. inner.process_mark l.declared l.column l.site row process ∷ []) l.row (drop l.row l.members)
    ≡ l.fn.marks.items ++ inner.member_marks l.declared l.column l.site l.members
