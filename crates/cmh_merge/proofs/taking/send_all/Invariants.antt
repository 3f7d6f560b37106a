use Rattle.std.proofs.Common.{take}
use Rattle.cmh_merge.specs.Inner.Takings.{SendsFrames}
use Rattle.cmh_merge.proofs.taking.send_all.Given as goal

abbrev pub invariant-loop-to : goal.invariant-loop-to
invariant-loop-to g l = SendsFrames l.site (take l.to-index l.sent) l.fn.queues l.queues
