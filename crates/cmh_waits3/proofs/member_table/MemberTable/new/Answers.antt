use Rattle.std.proofs.Common.{◌≡◌, ◌∙◌, get_or, sym}
use Rattle.std.proofs.lemmas.List.{get_or_default}
use Rattle.cmh_waits3.proofs.Placed.{one_placed}
use Rattle.cmh_waits3.proofs.member_table.MemberTable.new.Goals as goal

pub loop-place-preserved : goal.loop-place-preserved
loop-place-preserved c =
    let ms = c.args.processes.now in
    let places = c.loop-place.places.items in
    let i = c.loop-place.place in
    let x = c.index-processes-place.result in
    let inside = c.loop-place-test.true in
    let is : get_or ms i 0 ≡ x = sym (c.index-processes-place.is ∙ get_or_default ms i x 0 inside) in
    one_placed ms places c.put_place.new.places.items i x c.requires.ascending inside is c.in_ok-put_place.ensures.at c.in_ok-put_place.ensures.long c.in_ok-put_place.ensures.others c.loop-place.invariant
