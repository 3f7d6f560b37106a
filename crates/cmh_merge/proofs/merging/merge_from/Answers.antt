use Rattle.std.proofs.Common.{◌≡◌, ℕ, ◌<◌, List, length, refl, ap, sym, subst, arith, ◌∙◌}
use Rattle.cmh_merge.specs.Walks.{lefts_of, sites_of}
use Rattle.cmh_merge.specs.Merges.{AreDistinct}
use Rattle.cmh_merge.specs.Queues.{waiting}
use Rattle.cmh_merge.specs.Inner.Merging.{IsMerging, StuckAt}
use Rattle.cmh_merge.proofs.Confluence.{left_under_way, merged}
use Rattle.cmh_merge.proofs.Going.{merging_start}
use Rattle.cmh_merge.proofs.WalkLists.{length_lefts, length_sites}
use Rattle.cmh_merge.proofs.merging.merge_from.Goals as goal

pub loop-moves-init : goal.loop-moves-init
loop-moves-init g c =
    let W = g.W.Walk in
    record {
      sites = refl;
      merging = subst (λ (order : List ℕ). IsMerging W.got (sites_of c.args.walks.items) (waiting c.args.queues) (lefts_of W.left c.args.walks.items) (lefts_of W.left c.args.walks.items) c.args.queues order) (sym c.new-order.ensures.items)
          (merging_start W.got (sites_of c.args.walks.items) (lefts_of W.left c.args.walks.items) c.args.queues);
      stuck = λ is. absurd (cc is);
    }

pub loop-moves-preserved : goal.loop-moves-preserved
loop-moves-preserved g c =
    let W = g.W.Walk in
    let now = c.loop-moves.invariant in
    let made = c.in_ok-moves.ensures in
    record {
      sites = made.sites ∙ now.sites;
      merging = subst (λ (s : List ℕ). IsMerging W.got s (waiting c.args.queues) (lefts_of W.left c.args.walks.items) (lefts_of W.left c.pass.new.walks.items) c.pass.new.queues c.pass.new.order.items) now.sites
          (made.goes_on.leads (waiting c.args.queues) (lefts_of W.left c.args.walks.items) (subst AreDistinct (sym now.sites) c.requires.distinct) (length_lefts W.left c.loop-moves.walks.items ∙ sym (length_sites c.loop-moves.walks.items))
          (subst (λ (s : List ℕ). IsMerging W.got s (waiting c.args.queues) (lefts_of W.left c.args.walks.items) (lefts_of W.left c.loop-moves.walks.items) c.loop-moves.queues c.loop-moves.order.items) (sym now.sites) now.merging));
      stuck = λ none. subst (λ (s : List ℕ). (k : ℕ) → k < length c.pass.new.walks.items → StuckAt W.got s (lefts_of W.left c.pass.new.walks.items) c.pass.new.queues k) now.sites (made.stuck none);
    }

pub returns-clause-merged : goal.returns-clause-merged
returns-clause-merged g c =
    let W = g.W.Walk in
    let now = c.loop-moves.invariant in
    let long : length c.loop-moves.walks.items ≡ length (sites_of c.args.walks.items) = sym (length_sites c.loop-moves.walks.items) ∙ ap length now.sites in
    merged W.got (waiting c.args.queues) (sites_of c.args.walks.items) (lefts_of W.left c.args.walks.items) (lefts_of W.left c.loop-moves.walks.items) c.loop-moves.queues c.loop-moves.order.items
    (length_lefts W.left c.loop-moves.walks.items ∙ long) now.merging
    (λ k l. now.stuck c.loop-moves-test.false k (omega (arith, l, long)))

pub returns-clause-under_way : goal.returns-clause-under_way
returns-clause-under_way g c =
    let W = g.W.Walk in
    left_under_way W.got (waiting c.args.queues) (sites_of c.args.walks.items) (lefts_of W.left c.args.walks.items) (lefts_of W.left c.loop-moves.walks.items) c.loop-moves.queues c.loop-moves.order.items
    c.loop-moves.invariant.merging
