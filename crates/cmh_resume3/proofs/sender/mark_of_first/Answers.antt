use Rattle.std.proofs.Common.{◌<◌, ap, ◌∙◌, length, arith}
use Rattle.cmh_wire3.specs.Mark.{mark_on}
use Rattle.cmh_resume3.proofs.Ends.{marked_next}
use Rattle.cmh_resume3.proofs.sender.mark_of_first.Goals as goal

pub loop-at-preserved : goal.loop-at-preserved
loop-at-preserved c =
    let below : c.loop-at.at < length c.args.messages.now.items = omega arith in
    c.on-folded.ensures ∙ ap (λ l. mark_on c.loop-at.folded l) (c.as_slice.ensures.value ∙ c.encode.ensures)
    ∙ marked_next c.args.mark c.loop-at.folded c.args.messages.now.items c.loop-at.at c.index.result.now below c.index.ensures c.loop-at.invariant
