use Rattle.std.proofs.Common.{ℕ, Option, ap, ◌∙◌}
use Rattle.cmh_commands.specs.Drawing.{part_between}
use Rattle.cmh_commands.proofs.ColumnLemmas.{column_is}
use Rattle.cmh_commands.proofs.drawing.part_of.Goals as goal

pub returns : goal.returns
returns c = λ first last from to.
    c.between.ensures
    ∙ ap (λ (f : Option ℕ). part_between f c.number_named-last.result)
    (column_is _ _ c.number_named-first.ensures.none c.number_named-first.ensures.some first from)
    ∙ ap (λ (l : Option ℕ). part_between first l) (column_is _ _ c.number_named-last.ensures.none c.number_named-last.ensures.some last to)
