use Rattle.std.proofs.Common.{List, subst, take_all}
use Rattle.cmh_merge.specs.Queues.{waiting}
use Rattle.cmh_model3.specs.declared.frame.Message.{Message}
use Rattle.cmh_history3.proofs.Queueing.{FirstSent, none_sent, one_sent}
use Rattle.cmh_history3.proofs.under_way.send_all.Goals as goal

pub loop-message-init : goal.loop-message-init
loop-message-init c = none_sent (waiting c.args.queues.now) c.args.from c.args.to

pub loop-message-preserved : goal.loop-message-preserved
loop-message-preserved c =
    one_sent (waiting c.args.queues.now) (waiting c.loop-message.queues) (waiting c.send.new.self) c.args.from c.args.to c.loop-message.message-index c.args.messages.now c.message-item.result
    c.loop-message-test.true c.message-item.is c.loop-message.invariant c.in_ok-send.ensures.ok

pub returns : goal.returns
returns c =
    subst (λ (sent : List Message). FirstSent (waiting c.args.queues.now) (waiting c.loop-message.queues) c.args.from c.args.to sent)
    (take_all c.loop-message.message-index c.args.messages.now c.loop-message-test.false) c.loop-message.invariant
