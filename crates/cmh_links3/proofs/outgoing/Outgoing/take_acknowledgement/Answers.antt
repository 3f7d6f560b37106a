use Rattle.std.proofs.Common.{ap, ◌∙◌}
use Rattle.cmh_links3.specs.Connections.{Outgoing}
use Rattle.cmh_links3.proofs.Taking.{hears_bad_acknowledgement}
use Rattle.cmh_links3.proofs.outgoing.Outgoing.take_acknowledgement.Goals as goal

pub returns-in-Bad-clause-hears : goal.returns-in-Bad-clause-hears
returns-in-Bad-clause-hears g c =
    hears_bad_acknowledgement c.args.now c.args.self.now c.args.node.now c.as_slice.result.now
    (c.as_slice.ensures ∙ ap (λ (x : Outgoing). x.unread) c.self.view_is) c.in-Bad.ensures
