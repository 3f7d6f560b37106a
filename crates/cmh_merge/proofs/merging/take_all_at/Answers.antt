use Rattle.std.proofs.Common.{ℕ, ◌<◌, List, true, length, sym, subst, subst₂, arith, ◌∙◌}
use Rattle.cmh_merge.specs.Walks.{lefts_of, sites_of}
use Rattle.cmh_merge.specs.Inner.Merging.{GoesOn, StuckAt}
use Rattle.cmh_merge.proofs.Going.{goes_on, goes_one}
use Rattle.cmh_merge.proofs.WalkLists.{if_false, if_true, length_lefts}
use Rattle.cmh_merge.proofs.merging.take_all_at.Goals as goal

pub loop-moved-smaller : goal.loop-moved-smaller
loop-moved-smaller g c =
    let W = g.W.Walk in
    let cur = c.loop-moved.walks.items in
    let taken = if_true _ _ _ c.if-branch.true c.in_ok-take_at.ensures.took in
    let inside : c.args.place < length (lefts_of W.left cur) =
    let l = c.requires in let a = length_lefts W.left c.args.walks.now.items in let b = c.loop-moved.invariant.goes_on.long in omega (arith, l, a, b) in
    (goes_one W.got (sites_of cur) c.args.place (lefts_of W.left cur) (lefts_of W.left c.take_at.new.walks.items) c.loop-moved.queues c.take_at.new.queues c.loop-moved.order.items c.take_at.new.order.items inside taken).less

pub loop-moved-preserved : goal.loop-moved-preserved
loop-moved-preserved g c =
    let W = g.W.Walk in
    let cur = c.loop-moved.walks.items in
    let taken = if_true _ _ _ c.if-branch.true c.in_ok-take_at.ensures.took in
    let inside : c.args.place < length (lefts_of W.left cur) =
    let l = c.requires in let a = length_lefts W.left c.args.walks.now.items in let b = c.loop-moved.invariant.goes_on.long in omega (arith, l, a, b) in
    let one = goes_one W.got (sites_of cur) c.args.place (lefts_of W.left cur) (lefts_of W.left c.take_at.new.walks.items) c.loop-moved.queues c.take_at.new.queues c.loop-moved.order.items c.take_at.new.order.items inside taken in
    record {
      sites = c.in_ok-take_at.ensures.sites ∙ c.loop-moved.invariant.sites;
      goes_on = goes_on W.got (sites_of c.args.walks.now.items) c.loop-moved.moved (lefts_of W.left c.args.walks.now.items) (lefts_of W.left cur) (lefts_of W.left c.take_at.new.walks.items)
          c.args.queues.now c.loop-moved.queues c.take_at.new.queues c.args.order.now.items c.loop-moved.order.items c.take_at.new.order.items
          c.loop-moved.invariant.goes_on
          (subst (λ (s : List ℕ). GoesOn W.got s true (lefts_of W.left cur) (lefts_of W.left c.take_at.new.walks.items) c.loop-moved.queues c.take_at.new.queues c.loop-moved.order.items c.take_at.new.order.items) c.loop-moved.invariant.sites one);
    }

pub returns-clause-stuck : goal.returns-clause-stuck
returns-clause-stuck g c =
    let W = g.W.Walk in
    let same = if_false _ _ _ c.if-branch.false c.in_ok-take_at.ensures.took in
    subst₂ (λ l q. StuckAt W.got (sites_of c.args.walks.now.items) l q c.args.place) (sym same.1) (sym same.2)
    (subst (λ (s : List ℕ). StuckAt W.got s (lefts_of W.left c.loop-moved.walks.items) c.loop-moved.queues c.args.place) c.loop-moved.invariant.sites same.0)
