use Rattle.std.proofs.Common.{take}
use Rattle.cmh_merge.specs.Queues.{waiting}
use Rattle.cmh_history3.proofs.Waiting.{Taken}
use Rattle.cmh_history3.proofs.queues.are_waiting.Given as goal

-- the messages so far were under way first
abbrev pub invariant-loop-message : goal.invariant-loop-message
invariant-loop-message l = Taken (waiting l.fn.queues) (waiting l.queues) l.from l.to (take l.message-index l.messages) l.messages
