use Rattle.std.proofs.Common.{map, ℕ, List, ◌++◌, ◌∷◌, [], take, ap, sym, ◌∙◌, arith}
use Rattle.std.proofs.lemmas.List.{take_more}
use Rattle.cmh_shared.specs.Backlogs.{seen}
use Rattle.cmh_shared.specs.Links.{AreFresh}
use Rattle.cmh_shared.proofs.Paired.{ends_behind, firsts_seen, fresh_taps, paired_behind}
use Rattle.cmh_shared.proofs.links.SiteLinks.open.Goals as goal

pub loop-site-preserved : goal.loop-site-preserved
loop-site-preserved g c =
    let i = c.loop-site.invariant in
    let at = c.loop-site.site-index in
    record {
      count = omega (arith, c.push_reserved.ensures.len, i.count);
      count_taps = omega (arith, c.push_reserved-in-loop-site.ensures.len, i.count_taps);
      room = omega (arith, c.push_reserved.ensures.capacity, i.room);
      room_taps = omega (arith, c.push_reserved-in-loop-site.ensures.capacity, i.room_taps);
      to = rw c.push_reserved.ensures.items (ends_behind c.loop-site.links.items c.in_ok-link.link
          ∙ ap (λ (sites : List ℕ). sites ++ c.in_ok-link.link.to ∷ []) i.to
          ∙ ap (λ (site : ℕ). take at c.args.sites.now ++ site ∷ []) (c.in_ok-link.ensures.to ∙ c.site-item.is)
          ∙ sym (take_more c.args.sites.now at c.site-item.result c.loop-site-test.true));
      fresh = rw (c.push_reserved.ensures.items, c.push_reserved-in-loop-site.ensures.items)
          (paired_behind (λ a b. AreFresh (seen a) b) c.loop-site.links.items c.loop-site.taps.items c.in_ok-link.link c.in_ok-link.tap i.fresh c.in_ok-link.ensures.fresh);
    }

pub returns-clause-fresh : goal.returns-clause-fresh
returns-clause-fresh g c = firsts_seen AreFresh c.loop-site.links.items c.loop-site.taps.items c.loop-site.invariant.fresh

pub returns-clause-taps : goal.returns-clause-taps
returns-clause-taps g c =
    let links = c.loop-site.links.items in
    let taps = c.loop-site.taps.items in
    fresh_taps (map seen links) taps (firsts_seen AreFresh links taps c.loop-site.invariant.fresh)
