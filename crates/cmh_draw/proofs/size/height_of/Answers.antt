use Rattle.std.proofs.Common.{◌≡◌, ℕ, ◌<◌, ◌≤◌, List, length, get_or, ap, subst, arith}
use Rattle.cmh_frames.specs.Topology.{sites_of, members_of}
use Rattle.cmh_draw.proofs.SizeLemmas.{all_more}
use Rattle.cmh_draw.proofs.size.height_of.Goals as goal

pub loop-site-preserved : goal.loop-site-preserved
loop-site-preserved c =
    let t = c.args.topology.now in
    let i = c.loop-site.site-index in
    let site = c.site-item.result in
    let same = c.sites-site-items.ensures.value in
    let older : c.loop-site.height ≤ c.larger-height.result = c.larger-height.ensures.first in
    let long : length c.members.result.now ≡ length (members_of t site) = ap (λ (l : List ℕ). length l) c.members.ensures.value in
    let newer : length c.members.result.now ≤ c.larger-height.result = c.larger-height.ensures.second in
    all_more (λ s. length (members_of t s) ≤ c.loop-site.height) (λ s. length (members_of t s) ≤ c.larger-height.result) (sites_of t) i site
    (subst (λ (l : List ℕ). i < length l) same c.loop-site-test.true)
    (subst (λ (l : List ℕ). site ≡ get_or l i site) same c.site-item.is)
    (λ s before. omega arith)
    (omega arith)
    c.loop-site.invariant
