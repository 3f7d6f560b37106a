use Rattle.std.proofs.Common.{rules, ◌∷◌, [], refl}
use Rattle.cmh_draw3.specs.Inner.Marks as inner
use Rattle.cmh_draw.proofs.EachLemmas.{each_next}
use Rattle.cmh_draw3.proofs.waiting.add_processes.Goals as goal

pub loop-row-preserved : goal.loop-row-preserved
loop-row-preserved c =
    each_next (λ row process. inner.process_mark c.args.declared.now c.args.column c.args.site row process ∷ [])
    c.args.members.now c.args.members.now refl
    c.loop-row.row c.index-members-row.result _ _ _ c.loop-row-test.true c.index-members-row.is
    c.loop-row.invariant (search rules)
