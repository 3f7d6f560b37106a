use Rattle.cmh_audit3.proofs.Runs.{Gone}
use Rattle.cmh_audit3.proofs.run.run_of.Given as goal

-- the run has the first entries in the order
abbrev pub invariant-loop-site : goal.invariant-loop-site
invariant-loop-site l = Gone l.fn.segments.items l.order l.site-index l.queues l.run.items
