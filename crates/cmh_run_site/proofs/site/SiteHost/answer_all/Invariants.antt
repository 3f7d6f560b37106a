use Rattle.std.proofs.Common.{◌≡◌, ◌<◌, length}
use Rattle.cmh_links.specs.Threads.{link_sites}
use Rattle.cmh_run_site.proofs.Waiting.{HasWaited}
use Rattle.cmh_run_site.specs.SiteTalk.{LeadToOthers}
use Rattle.cmh_run_site.proofs.site.SiteHost.answer_all.Given as goal

abbrev pub invariant-loop-turn : goal.invariant-loop-turn
invariant-loop-turn g l =
    (l.self.topology.now ≡ l.initial.self.topology.now) × (l.self.handle.site ≡ l.initial.self.handle.site)
    × (length l.events.items < 64)
    × HasWaited l.initial.self.topology.now l.initial.self.handle.site l.initial.self.has_connected l.initial.input.left l.input.left
    l.initial.out.written l.out.written l.self.has_connected l.events.items l.turn
    × LeadToOthers l.initial.self.topology.now l.initial.self.handle.site
    (link_sites l.self.threads.places.items l.self.threads.waiting.items)
