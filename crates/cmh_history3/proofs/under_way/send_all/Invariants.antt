use Rattle.std.proofs.Common.{take}
use Rattle.cmh_merge.specs.Queues.{waiting}
use Rattle.cmh_history3.proofs.Queueing.{FirstSent}
use Rattle.cmh_history3.proofs.under_way.send_all.Given as goal

-- the messages so far are in the queues
abbrev pub invariant-loop-message : goal.invariant-loop-message
invariant-loop-message l = FirstSent (waiting l.fn.queues) (waiting l.queues) l.from l.to (take l.message-index l.messages)
