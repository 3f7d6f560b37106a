use Rattle.std.proofs.Common.{Some, ap}
use Rattle.cmh_links.proofs.Lents.{grew_receipts}
use Rattle.cmh_links.proofs.lent.LentHandover.hand.Goals as goal

pub returns-in-Ok-clause-ok : goal.returns-in-Ok-clause-ok
returns-in-Ok-clause-ok g c =
    let outcome = c.in-Ok.field-0 in
    ap Some (grew_receipts c.args.self.now.station.core c.args.from c.args.frame outcome.sent outcome.declared c.step.new.self.core c.in-Ok.ensures.ok)
