use Rattle.std.proofs.Common.{◌∙◌, ◌+◌, ◌||◌, ◌==◌, take, sym, ap, arith}
use Rattle.std.proofs.lemmas.List.{get_or_default}
use Rattle.std.proofs.lemmas.List.Folds.{list_any_more}
use Rattle.cmh_model3.specs.Lists.{in_list}
use Rattle.cmh_waits3.proofs.Rows.{insert_more, still_new}
use Rattle.cmh_waits3.proofs.wait_list.insert_each.Goals as goal

pub insert-requires-clause-new : goal.insert-requires-clause-new
insert-requires-clause-new c =
    let ks = c.args.targets.now in
    let x = c.target-item.result in
    let i = c.loop-target.target-index in
    let inside = c.loop-target-test.true in
    still_new ks i x c.args.since _ _ c.requires.targets inside (sym (c.target-item.is ∙ get_or_default ks i x 0 inside)) c.requires.new c.loop-target.invariant.are

pub loop-target-preserved : goal.loop-target-preserved
loop-target-preserved c =
    let ks = c.args.targets.now in
    let x = c.target-item.result in
    let i = c.loop-target.target-index in
    let inside = c.loop-target-test.true in
    let room = c.loop-target.invariant.room in
    let len = c.insert.ensures.len in
    let capacity = c.insert.ensures.capacity in
    record {
      are = insert_more (take i ks) (take (i + 1) ks) x c.args.since _ _ _
          (λ q. list_any_more (λ y. y == q) ks i x inside ∙ ap (λ y. in_list (take i ks) q || (y == q)) (sym c.target-item.is)) c.loop-target.invariant.are c.insert.ensures.are;
      room = omega (arith, room, len, capacity, inside);
    }
