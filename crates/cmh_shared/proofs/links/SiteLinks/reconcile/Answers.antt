use Rattle.std.proofs.Common.{subst, sym}
use Rattle.cmh_shared.specs.Backlogs.{seen}
use Rattle.std.specs.List.{AllZip}
use Rattle.cmh_shared.specs.Links.{IsTapOf, SiteLinks, Through}
use Rattle.cmh_shared.proofs.Paired.{at_each_paired, firsts_fields, firsts_seen, paired_at_each}
use Rattle.cmh_shared.proofs.links.SiteLinks.reconcile.Goals as goal

pub reconcile_each-requires : goal.reconcile_each-requires
reconcile_each-requires g c =
    let links = c.self.inside.links.items in
    let taps = c.args.taps.now.items in
    paired_at_each (λ a b. IsTapOf (seen a) b) links taps
    (firsts_fields IsTapOf links taps (subst (λ (ls : SiteLinks g.row.F.Denot). AllZip IsTapOf ls.each taps) (sym c.self.view_is) c.requires))

pub returns : goal.returns
returns g c =
    let links = c.self.inside.links.items in
    let taps = c.args.taps.now.items in
    rw (← c.self.view_is) (firsts_seen Through links taps (at_each_paired (λ a b. Through (seen a) b) links taps c.reconcile_each.ensures))
