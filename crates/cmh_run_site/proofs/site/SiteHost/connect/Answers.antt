use Rattle.cmh_run_site.proofs.Linking.{counted}
use Rattle.cmh_run_site.proofs.site.SiteHost.connect.Goals as goal

pub returns-clause-replies : goal.returns-clause-replies
returns-clause-replies g c =
    let self = c.args.self.now in
    counted self.topology.now self.handle.site _ self.threads.waiting.items _ _ _ _ c.requires.to_others self.threads.waiting.ok.0
    c.if-self.false c.connect-connected.ensures.few
