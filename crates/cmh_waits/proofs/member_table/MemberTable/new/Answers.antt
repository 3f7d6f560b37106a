use Rattle.std.proofs.Common.{◌≡◌, ◌==◌, ◌∙◌, ℕ, get_or, cond, ap}
use Rattle.std.proofs.lemmas.List.{get_or_default}
use Rattle.cmh_waits.proofs.Placed.{one_placed}
use Rattle.cmh_waits.proofs.member_table.MemberTable.new.Goals as goal

pub loop-place-preserved : goal.loop-place-preserved
loop-place-preserved c =
    let ms = c.args.processes.now in
    let places = c.loop-place.places.items in
    let i = c.loop-place.place in
    let puts : (p : ℕ) → get_or c.put_place.new.places.items p 255 ≡ cond (get_or ms i 0 == p) i (get_or places p 255) = λ p.
    c.in_ok-put_place.ensures p
    ∙ ap (λ q. cond (q == p) i (get_or places p 255)) (c.index-processes-place.is ∙ get_or_default ms i c.index-processes-place.result 0 c.loop-place-test.true) in
    one_placed ms places c.put_place.new.places.items i c.requires.ascending c.loop-place-test.true puts c.loop-place.invariant
