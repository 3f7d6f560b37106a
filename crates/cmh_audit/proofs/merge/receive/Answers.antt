use Rattle.cmh_audit.proofs.MoveLemmas.{lacks_got}
use Rattle.cmh_audit.proofs.merge.receive.Goals as goal

pub returns-else-receive_this : goal.returns-else-receive_this
returns-else-receive_this c =
    let other = c.if-receive_this.ensures in
    (other.0, lacks_got c.args.links.now c.args.site _ _ c.args.entry.now.event c.in-Some.ensures other.1)
