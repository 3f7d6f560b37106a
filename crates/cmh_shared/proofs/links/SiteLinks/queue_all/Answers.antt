use Rattle.cmh_shared.specs.Links.{queued}
use Rattle.cmh_shared.proofs.Paired.{all_changed}
use Rattle.cmh_shared.proofs.Queuing.{sent_of}
use Rattle.cmh_shared.proofs.Refill.{refilled}
use Rattle.cmh_shared.proofs.links.SiteLinks.queue_all.Goals as goal

pub returns : goal.returns
returns g c =
    let links = c.self.inside.links in
    let h = rw c.as_mut_slice.ensures.value at c.queue_each.ensures in
    rw (← c.self.view_is, refilled links.len links.items c.queue_each.new.links links.ok.0 h.0)
    (all_changed (queued (sent_of c.args.entries.now)) links.items c.queue_each.new.links h)
