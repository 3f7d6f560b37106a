use Rattle.cmh_history3.proofs.Leading.{some_of, stand_at}
use Rattle.cmh_history3.proofs.judged.verdict_on.Goals as goal

pub audit_epoch-requires-clause-stand : goal.audit_epoch-requires-clause-stand
audit_epoch-requires-clause-stand c =
    stand_at c.args.topology.now c.args.segments.now c.in-Some.controllers.items (some_of _ c.in_ok-controllers.field-0 c.in-Some.controllers c.in-Some.is c.in_ok-controllers.ensures.restored)
