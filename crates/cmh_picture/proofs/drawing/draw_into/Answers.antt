use Rattle.std.proofs.Common.{ℕ, Vec, map}
use Rattle.std.specs.Global.{Global}
use Rattle.std.proofs.lemmas.Result.{IfErr-weaker, IfOk-weaker}
use Rattle.cmh_picture.proofs.CauseLemmas.{part_cause, wrote_drawing}
use Rattle.cmh_picture.proofs.drawing.draw_into.Goals as goal

pub returns-clause-wrote : goal.returns-clause-wrote
returns-clause-wrote g c =
    let drawing = c.args.drawing.now in
    IfOk-weaker _ _ _ (λ u. wrote_drawing drawing.topology.now (map (λ (file : Vec ℕ Global). file.items) drawing.journals.now) drawing.kind
    drawing.format drawing.part c.in_ok-whole.whole c.in_ok-whole.ensures.draws _ _)
    c.write_picture.ensures.wrote

pub returns-clause-fault : goal.returns-clause-fault
returns-clause-fault g c =
    let drawing = c.args.drawing.now in
    IfErr-weaker _ _ _ (part_cause drawing.topology.now (map (λ (file : Vec ℕ Global). file.items) drawing.journals.now) drawing.kind drawing.part
    c.in_ok-whole.whole c.in_ok-whole.ensures.draws _ _ _)
    c.write_picture.ensures.fault
