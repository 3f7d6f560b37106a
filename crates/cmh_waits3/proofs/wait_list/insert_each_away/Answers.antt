use Rattle.std.proofs.Common.{◌≡◌, ◌∙◌, ◌+◌, ◌||◌, ◌==◌, ℕ, take, sym, ap, subst, arith, refl, true}
use Rattle.std.proofs.lemmas.List.{get_or_default}
use Rattle.std.proofs.lemmas.List.Folds.{list_any_more}
use Rattle.cmh_model3.specs.Lists.{in_list}
use Rattle.cmh_waits3.proofs.Away.{insert_one, skip_member, still_new}
use Rattle.cmh_waits3.proofs.Lists.{at_in}
use Rattle.cmh_waits3.proofs.wait_list.insert_each_away.Goals as goal
use Rattle.cmh_waits3.proofs.wait_list.insert_each_away.Goals.{in-Some, in-None}

pub insert-requires-clause-new : goal.insert-requires-clause-new
insert-requires-clause-new c =
    let ks = c.args.targets.now in
    let x = c.target-item.result in
    let i = c.loop-target.target-index in
    let inside = c.loop-target-test.true in
    still_new c.args.members.now ks i x c.args.since _ _ c.requires.targets inside (sym (c.target-item.is ∙ get_or_default ks i x 0 inside)) c.requires.new c.loop-target.invariant.are

pub loop-target-preserved : goal.loop-target-preserved
loop-target-preserved c =
    let ms = c.args.members.now in
    let ks = c.args.targets.now in
    let x = c.target-item.result in
    let i = c.loop-target.target-index in
    let inside = c.loop-target-test.true in
    let room = c.loop-target.invariant.room in
    let more : (q : ℕ) → in_list (take (i + 1) ks) q ≡ (in_list (take i ks) q || (x == q)) =
    λ q. list_any_more (λ y. y == q) ks i x inside ∙ ap (λ y. in_list (take i ks) q || (y == q)) (sym c.target-item.is) in
    elim c.match-place_of.branch [
      | in-None b ↦
          let len = b.insert.ensures.len in
          let capacity = b.insert.ensures.capacity in
          rw b.waits-is (record {
            are = insert_one ms (take i ks) (take (i + 1) ks) x c.args.since _ _ more c.loop-target.invariant.are b.in-None.ensures _ b.insert.ensures.are;
            room = omega (arith, room, len, capacity, inside);
          })
      | in-Some b ↦ rw b.waits-is (record {
        are = skip_member ms (take i ks) (take (i + 1) ks) x c.args.since _ _ more c.loop-target.invariant.are (subst (λ q. in_list ms q ≡ true) b.in-Some.ensures.1 (at_in ms b.in-Some.field-0 _ b.in-Some.ensures.0 refl));
        room = omega (arith, room, inside);
      })
    ]
