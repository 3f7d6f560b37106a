use Rattle.cmh_shared.specs.Links.{Released}
use Rattle.cmh_shared.proofs.Paired.{both_seen}
use Rattle.cmh_shared.proofs.Refill.{refilled}
use Rattle.cmh_shared.proofs.links.SiteLinks.release.Goals as goal

pub returns : goal.returns
returns g c =
    let links = c.self.inside.links in
    let h = rw c.as_mut_slice.ensures.value at c.release_each.ensures in
    rw (← c.self.view_is, refilled links.len links.items c.release_each.new.links links.ok.0 h.0)
    (both_seen Released links.items c.release_each.new.links (h.0, λ k d e lt. h.1 k d e lt))
