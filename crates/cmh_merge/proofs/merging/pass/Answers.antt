use Rattle.std.proofs.Common.{ℕ, List, length, refl, sym, ap, subst, arith, ◌∙◌}
use Rattle.cmh_merge.specs.Walks.{lefts_of, sites_of}
use Rattle.cmh_merge.specs.Inner.Merging.{GoesOn, StuckAt}
use Rattle.cmh_merge.proofs.Going.{goes_both, goes_first, stuck_both}
use Rattle.cmh_merge.proofs.WalkLists.{length_sites}
use Rattle.cmh_merge.proofs.merging.pass.Goals as goal

pub loop-place-init : goal.loop-place-init
loop-place-init g c = record {
  sites = refl;
  goes_on = goes_first g.W.Walk.got (sites_of c.args.walks.now.items) (lefts_of g.W.Walk.left c.args.walks.now.items) c.args.queues.now c.args.order.now.items;
  stuck = λ none k l. absurd (omega (arith, l));
}

pub loop-place-preserved : goal.loop-place-preserved
loop-place-preserved g c =
    let W = g.W.Walk in
    let now = c.loop-place.invariant in
    let made = c.in_ok-moved.ensures in
    let goes = subst (λ (s : List ℕ). GoesOn W.got s c.in_ok-moved.field-0 (lefts_of W.left c.loop-place.walks.items) (lefts_of W.left c.take_all_at.new.walks.items) c.loop-place.queues c.take_all_at.new.queues c.loop-place.order.items c.take_all_at.new.order.items) now.sites made.goes_on in
    record {
      sites = made.sites ∙ now.sites;
      goes_on = goes_both W.got (sites_of c.args.walks.now.items) c.loop-place.moved c.in_ok-moved.field-0 (lefts_of W.left c.args.walks.now.items) (lefts_of W.left c.loop-place.walks.items) (lefts_of W.left c.take_all_at.new.walks.items)
          c.args.queues.now c.loop-place.queues c.take_all_at.new.queues c.args.order.now.items c.loop-place.order.items c.take_all_at.new.order.items now.goes_on goes;
      stuck = stuck_both W.got (sites_of c.args.walks.now.items) c.loop-place.moved c.in_ok-moved.field-0 (lefts_of W.left c.loop-place.walks.items) (lefts_of W.left c.take_all_at.new.walks.items)
          c.loop-place.queues c.take_all_at.new.queues c.loop-place.order.items c.take_all_at.new.order.items c.loop-place.place goes now.stuck
          (subst (λ (s : List ℕ). StuckAt W.got s (lefts_of W.left c.take_all_at.new.walks.items) c.take_all_at.new.queues c.loop-place.place) now.sites made.stuck);
    }

pub returns-clause-stuck : goal.returns-clause-stuck
returns-clause-stuck g c = λ none k l.
    let W = g.W.Walk in
    let same = sym (length_sites c.loop-place.walks.items) ∙ ap length c.loop-place.invariant.sites ∙ length_sites c.args.walks.now.items in
    let is = c.len-place-end.ensures in
    let past = c.loop-place-test.false in
    let fits = c.args.walks.now.ok in
    c.loop-place.invariant.stuck none k (omega (arith, l, same, is, past, fits))
