use Rattle.std.proofs.Common.{ℕ, ◌+◌, List, Vec, Option, Some, sym, ap, subst, ◌∙◌}
use Rattle.std.specs.Global.{Global}
use Rattle.cmh_cycles.proofs.GraphLemmas.{AreAskersSoFar, askers_start, askers_pass, askers_push, askers_end, same_last, other_last}
use Rattle.cmh_cycles.proofs.graph.askers_of.Goals as goal
use Rattle.cmh_cycles.proofs.graph.askers_of.Goals.{then-ne+in_ok-push, else-ne}

pub loop-asker-init : goal.loop-asker-init
loop-asker-init c = askers_start c.args.waits.now c.new-processes.result.items c.new-processes.ensures.items

pub loop-asker-preserved : goal.loop-asker-preserved
loop-asker-preserved c =
    let items_of : Vec ℕ Global → List ℕ = λ v. v.items in
    let w = c.loop-asker-item.result in
    let L : Option ℕ → Type 0 = λ o. AreAskersSoFar c.args.waits.now (c.loop-asker.asker-index + 1) c.if-ne.processes.items o in
    elim c.if-ne.branch [
      | then-ne+in_ok-push b ↦
          let P : List ℕ → Type 0 = λ ps. AreAskersSoFar c.args.waits.now (c.loop-asker.asker-index + 1) ps (Some w.0) in
          subst L (sym b.last-is) (subst P (sym (ap items_of b.processes-is ∙ b.in_ok-push.ensures.items))
          (askers_push c.args.waits.now c.loop-asker.asker-index w c.loop-asker-test.true c.loop-asker-item.is c.requires c.loop-asker.processes.items c.loop-asker.last c.loop-asker.invariant
          (other_last c.loop-asker.last w.0 (sym c.ne.ensures ∙ b.if-ne.true))))
      | else-ne b ↦
          let P : List ℕ → Type 0 = λ ps. AreAskersSoFar c.args.waits.now (c.loop-asker.asker-index + 1) ps c.loop-asker.last in
          subst L (sym b.last-is) (subst P (sym (ap items_of b.processes-is))
          (askers_pass c.args.waits.now c.loop-asker.asker-index w c.loop-asker-test.true c.loop-asker-item.is c.requires c.loop-asker.processes.items c.loop-asker.last c.loop-asker.invariant
          (same_last c.loop-asker.last w.0 (sym c.ne.ensures ∙ b.if-ne.false))))
    ]

pub returns : goal.returns
returns c = askers_end c.args.waits.now c.loop-asker.asker-index c.loop-asker.processes.items c.loop-asker.last c.loop-asker-test.false c.loop-asker.invariant
