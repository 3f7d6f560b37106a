use Rattle.std.proofs.Common.{◌∙◌, ◌+◌, ◌||◌, ◌==◌, [], ◌∷◌, List, take, sym, ap, subst, true≢false}
use Rattle.std.proofs.lemmas.List.Folds.{list_any_more}
use Rattle.cmh_model3.specs.Lists.{IsAscending, in_list}
use Rattle.cmh_waits3.specs.declared.wait.Wait.{Wait}
use Rattle.cmh_waits3.specs.Rows.{others_than, targets_of}
use Rattle.cmh_waits3.proofs.Rows.{others_apart, others_ascend, others_more}
use Rattle.cmh_waits3.proofs.wait_list.remove_each.Goals as goal

pub loop-target-init : goal.loop-target-init
loop-target-init c = sym (others_apart [] c.args.waits.now.items (λ k h. absurd (true≢false (sym h))))

pub remove-requires : goal.remove-requires
remove-requires c = subst (λ (ws : List Wait). IsAscending (targets_of ws)) (sym c.loop-target.invariant) (others_ascend (take c.loop-target.target-index c.args.targets.now) c.args.waits.now.items c.requires)

pub loop-target-preserved : goal.loop-target-preserved
loop-target-preserved c =
    let ks = c.args.targets.now in
    let x = c.target-item.result in
    let i = c.loop-target.target-index in
    c.remove.ensures
    ∙ ap (others_than (x ∷ [])) c.loop-target.invariant
    ∙ others_more (take i ks) (take (i + 1) ks) x c.args.waits.now.items (λ q. list_any_more (λ y. y == q) ks i x c.loop-target-test.true ∙ ap (λ y. in_list (take i ks) q || (y == q)) (sym c.target-item.is))
