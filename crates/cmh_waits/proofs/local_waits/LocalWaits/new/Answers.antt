use Rattle.cmh_waits.proofs.Kept.{kept_as, kept_nothing}
use Rattle.cmh_waits.proofs.Shown.{new_held, new_rows_as}
use Rattle.cmh_waits.proofs.local_waits.LocalWaits.new.Goals as goal

pub invariant_of-result : goal.invariant_of-result
invariant_of-result c =
    let ms = c.args.members.now in
    let same = c.in_ok-new.ensures in
    let waits = c.in_ok-vec.ensures.items_if_clones_equal (λ y e. e) in
    let owed = c.in_ok-vec-2.ensures.items_if_clones_equal (λ y e. e) in (
      new_rows_as ms _ c.requires.ascending same _ _ waits c.in_ok-empty_lists.ensures,
      new_rows_as ms _ c.requires.ascending same _ _ owed c.in_ok-empty_sets.ensures,
      kept_as _ _ (new_held ms _ c.requires.ascending same _ _ _ _ waits owed c.in_ok-empty_lists.ensures c.in_ok-empty_sets.ensures) (kept_nothing ms c.requires.ascending c.requires.few),
    )

pub returns : goal.returns
returns c =
    new_held c.args.members.now _ c.requires.ascending (c.in_ok-new.ensures) _ _ _ _
    (c.in_ok-vec.ensures.items_if_clones_equal (λ y e. e)) (c.in_ok-vec-2.ensures.items_if_clones_equal (λ y e. e)) c.in_ok-empty_lists.ensures c.in_ok-empty_sets.ensures
