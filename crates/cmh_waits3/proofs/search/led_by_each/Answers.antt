use Rattle.std.proofs.Common.{◌≡◌, ◌∙◌, ◌||◌, ◌==◌, ℕ, List, get_or, sym, ap, subst}
use Rattle.std.specs.List.Sorted.{IsStrictlyIncreasing}
use Rattle.std.proofs.lemmas.List.{get_or_default}
use Rattle.cmh_waits3.specs.declared.wait.Wait.{Wait}
use Rattle.cmh_waits3.proofs.Counted.{away_uncounted, led_all, led_more, led_skip, led_so_far, take_past, young_uncounted}
use Rattle.cmh_waits3.proofs.search.led_by_each.Goals as goal
use Rattle.cmh_waits3.proofs.search.led_by_each.Goals.{then-counts+in-Some, then-counts+in_default, else-counts}

pub loop-wait-preserved : goal.loop-wait-preserved
loop-wait-preserved c =
    let ms = c.args.waits.now.members in
    let ws = c.row-row.result.now in
    let n = c.args.stamp in
    let i = c.args.origin in
    let p = c.index-members-place.result in
    let at = c.loop-wait.wait-index in
    let w = c.wait-item.result in
    let inside = c.loop-wait-test.true in
    let is = sym c.wait-item.is in
    let up = subst IsStrictlyIncreasing c.members.ensures.value c.members.ensures.ascending in
    elim c.if-counts.branch [
      | then-counts+in-Some b ↦ rw b.led-is (λ k.
          b.insert.ensures k
          ∙ ap (λ x. (k == b.in-Some.other) || x) (c.loop-wait.invariant k)
          ∙ sym (led_more n i p ms ws at w inside is up (sym c.counts.ensures ∙ b.if-counts.true) b.in-Some.other b.in-Some.ensures.0 b.in-Some.ensures.1 k))
      | then-counts+in_default b ↦ rw b.led-is (λ k. c.loop-wait.invariant k ∙ sym (led_skip n i p ms ws at w inside is (away_uncounted n i p ms w b.in_default.ensures) k))
      | else-counts b ↦ rw b.led-is (λ k. c.loop-wait.invariant k ∙ sym (led_skip n i p ms ws at w inside is (λ j _. young_uncounted n i p w (sym c.counts.ensures ∙ b.if-counts.false) (get_or ms j 0)) k))
    ]

pub returns : goal.returns
returns c =
    let v = c.args.waits.now in
    let ws = c.row-row.result.now in
    let place = c.args.place in
    let p = c.index-members-place.result in
    let is : p ≡ get_or v.members place 0 =
    subst (λ (ms : List ℕ). p ≡ get_or ms place p) c.members.ensures.value c.index-members-place.is ∙ get_or_default v.members place p 0 c.requires in
    λ k.
    c.loop-wait.invariant k
    ∙ ap (λ (r : List Wait). led_so_far c.args.stamp c.args.origin p v.members r k) (take_past ws c.loop-wait.wait-index c.loop-wait-test.false)
    ∙ ap (λ q. led_so_far c.args.stamp c.args.origin q v.members ws k) is
    ∙ led_all v c.args.stamp c.args.origin place ws c.row-row.ensures.row c.row-row.ensures.ascending k
