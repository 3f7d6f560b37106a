use Rattle.std.proofs.Common.{◌≡◌, Bool, [], ◌∷◌, ◌++◌, get_or, subst, subst₂, sym, ap, refl, ◌∙◌}
use Rattle.std.specs.Prelude.{MatchBool}
use Rattle.cmh_merge.specs.Inner.Takings.{IsStuck, Takes}
use Rattle.cmh_merge.proofs.WalkLists.{left_is, same_lefts, same_sites, set_left, site_is}
use Rattle.cmh_merge.proofs.merging.take_at.Goals as goal

pub returns-then-not-branch-clause-took : goal.returns-then-not-branch-clause-took
returns-then-not-branch-clause-took g c =
    let W = g.W.Walk in
    let w = c.index_mut.result.now in
    let is : get_or c.args.walks.now.items c.args.place w ≡ w = sym c.index_mut.ensures.value in
    let stuck = subst (λ (r : Bool). MatchBool r (Takes W.got w.site (W.left w.walk) (W.left c.take_next.new.walk) c.args.queues.now c.take_next.new.queues)
    (IsStuck W.got w.site (W.left w.walk) c.args.queues.now × (c.take_next.new.walk ≡ w.walk) × (c.take_next.new.queues ≡ c.args.queues.now))) c.if-not-branch.true c.in_ok-take_next.ensures.took in (
      subst₂ (λ s l. IsStuck W.got s l c.args.queues.now) (sym (site_is W.left c.args.walks.now.items c.args.place w c.requires is)) (sym (left_is W.left c.args.walks.now.items c.args.place w c.requires is)) stuck.0,
      same_lefts W.left c.args.walks.now.items c.args.place w c.requires is c.take_next.new.walk (ap W.left stuck.1),
      stuck.2,
      refl,
    )

pub returns-clause-sites : goal.returns-clause-sites
returns-clause-sites g c =
    let w = c.index_mut.result.now in
    let is : get_or c.args.walks.now.items c.args.place w ≡ w = sym c.index_mut.ensures.value in
    same_sites g.W.Walk.left c.args.walks.now.items c.args.place w c.requires is c.take_next.new.walk

pub returns-clause-took : goal.returns-clause-took
returns-clause-took g c =
    let W = g.W.Walk in
    let w = c.index_mut.result.now in
    let is : get_or c.args.walks.now.items c.args.place w ≡ w = sym c.index_mut.ensures.value in
    let takes = subst (λ (r : Bool). MatchBool r (Takes W.got w.site (W.left w.walk) (W.left c.take_next.new.walk) c.args.queues.now c.take_next.new.queues)
    (IsStuck W.got w.site (W.left w.walk) c.args.queues.now × (c.take_next.new.walk ≡ w.walk) × (c.take_next.new.queues ≡ c.args.queues.now))) c.if-not-branch.false c.in_ok-take_next.ensures.took in
    let site = site_is W.left c.args.walks.now.items c.args.place w c.requires is in
    record {
      rest = W.left c.take_next.new.walk;
      takes = subst₂ (λ s l. Takes W.got s l (W.left c.take_next.new.walk) c.args.queues.now c.take_next.new.queues) (sym site)
          (sym (left_is W.left c.args.walks.now.items c.args.place w c.requires is)) takes;
      left_is = set_left W.left c.args.walks.now.items c.args.place w c.requires is c.take_next.new.walk;
      order_is = c.in_ok-push.ensures.items ∙ ap (λ s. c.args.order.now.items ++ s ∷ []) (sym site);
    }
