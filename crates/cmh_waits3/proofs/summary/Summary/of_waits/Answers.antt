use Rattle.std.proofs.Common.{◌≡◌, ◌∙◌, ◌+◌, [], ◌∷◌, ◌++◌, List, take, sym, ap, subst}
use Rattle.std.proofs.lemmas.List.{take_more}
use Rattle.cmh_waits3.specs.Inner.Summaries.{IsSummary}
use Rattle.cmh_waits3.specs.declared.wait.Wait.{Wait}
use Rattle.cmh_waits3.proofs.Counted.{take_past}
use Rattle.cmh_waits3.proofs.summary.Summary.of_waits.Goals as goal

pub loop-wait-preserved : goal.loop-wait-preserved
loop-wait-preserved c =
    let ms = c.args.members.now in
    let ws = c.args.waits.now in
    let i = c.loop-wait.wait-index in
    let w = c.wait-item.result in
    let more : take (i + 1) ws ≡ take i ws ++ w ∷ [] = take_more ws i w c.loop-wait-test.true ∙ ap (λ (x : Wait). take i ws ++ x ∷ []) (sym c.wait-item.is) in
    subst (λ (r : List Wait). IsSummary ms r c.add.new.self) (sym more) (c.add.ensures (take i ws) c.loop-wait.invariant)

pub returns : goal.returns
returns c =
    subst (λ (r : List Wait). IsSummary c.args.members.now r c.loop-wait.summary) (take_past c.args.waits.now c.loop-wait.wait-index c.loop-wait-test.false) c.loop-wait.invariant
