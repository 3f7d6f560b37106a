use Rattle.cmh_shared.proofs.Paired.{all_same}
use Rattle.cmh_shared.proofs.Refill.{refilled}
use Rattle.cmh_shared.proofs.links.SiteLinks.reserve_for.Goals as goal

pub returns-in_err-reserve_each-clause-same : goal.returns-in_err-reserve_each-clause-same
returns-in_err-reserve_each-clause-same g c =
    let links = c.self.inside.links in
    let h = rw c.as_mut_slice.ensures.value at c.reserve_each.ensures.same in
    rw (← c.self.view_is, refilled links.len links.items c.reserve_each.new.links links.ok.0 h.0)
    (all_same links.items c.reserve_each.new.links h)

pub returns-clause-same : goal.returns-clause-same
returns-clause-same g c =
    let links = c.self.inside.links in
    let h = rw c.as_mut_slice.ensures.value at c.reserve_each.ensures.same in
    rw (← c.self.view_is, refilled links.len links.items c.reserve_each.new.links links.ok.0 h.0)
    (all_same links.items c.reserve_each.new.links h)
