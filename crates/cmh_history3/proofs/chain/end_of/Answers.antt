use Rattle.std.proofs.Common.{subst}
use Rattle.cmh_history3.specs.Verdicts.{Ends}
use Rattle.cmh_history3.proofs.Leading.{begin_within, some_of, stand_at}
use Rattle.cmh_history3.proofs.chain.end_of.Goals as goal

pub audit_epoch-requires-clause-stand : goal.audit_epoch-requires-clause-stand
audit_epoch-requires-clause-stand c =
    stand_at c.args.topology.now c.args.segments.now c.in-Some.controllers.items (some_of _ c.in_ok-controllers.field-0 c.in-Some.controllers c.in-Some.is c.in_ok-controllers.ensures.restored)

pub returns-in-Accepted : goal.returns-in-Accepted
returns-in-Accepted c =
    let t = c.args.topology.now in
    let gs = c.args.segments.now in
    record {
      ends = record {
        set = c.requires.set;
        within = begin_within t gs c.in-Some.controllers.items c.requires.set.of_world (some_of _ c.in_ok-controllers.field-0 c.in-Some.controllers c.in-Some.is c.in_ok-controllers.ensures.restored);
        order = c.in-Accepted.order;
        end = subst (Ends t gs) c.in-Accepted.is c.in_ok-controllers-2.ensures.ends;
      };
      none = tt;
    }
