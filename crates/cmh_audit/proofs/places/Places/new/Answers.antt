use Rattle.std.proofs.Common.{◌≡◌, ◌<◌, ◌+◌, Some, length, length-set, set, subst, sym, ◌∙◌, arith}
use Rattle.cmh_audit.proofs.PlaceLemmas.{ArePlaced, fits_room, placed_more}
use Rattle.cmh_audit.proofs.places.Places.new.Goals as goal

pub loop-i-preserved : goal.loop-i-preserved
loop-i-preserved c =
    let js = c.args.journals.now in
    let j = c.index-journals-i.result in
    let is : c.get-number.result ≡ j.site = c.get-number.ensures.value ∙ c.site.ensures in
    let room = fits_room js c.loop-i.i c.room_for.result j c.loop-i-test.true c.index-journals-i.is c.room_for.ensures in
    let long = c.loop-i.invariant.long in
    let first = c.in_ok-by_site.ensures.len in
    let whole = c.in_ok-by_site.by_site.ok.0 in
    let fits : j.site < length c.loop-i.by_site.items = omega (arith, room, long, first, whole) in
    record {
      long = length-set c.loop-i.by_site.items c.get-number.result (Some c.loop-i.i) ∙ long;
      placed = subst (λ n. ArePlaced js (set c.loop-i.by_site.items n (Some c.loop-i.i)) (c.loop-i.i + 1)) (sym is)
          (placed_more js c.loop-i.by_site.items c.loop-i.i j c.loop-i-test.true c.index-journals-i.is fits c.loop-i.invariant.placed);
    }
