use Rattle.std.proofs.Common.{◌∙◌}
use Rattle.cmh_node3.proofs.Counting.{never_untaken, with_next}
use Rattle.cmh_node3.proofs.taken.take_all.Goals as goal

pub unreachable-requires : goal.unreachable-requires
unreachable-requires c =
    never_untaken c.args.messages.now c.loop-message.message-index c.args.line c.args.into.now c.loop-message.into c.in_default.field-0 c.loop-message-test.true
    c.loop-message.invariant c.requires.claimed c.requires.countable c.in_default.ensures.untaken

pub loop-message-preserved : goal.loop-message-preserved
loop-message-preserved c =
    c.in-Ok.ensures.taken.1
    ∙ with_next c.args.messages.now c.loop-message.message-index c.message-item.result c.args.into.now c.loop-message.into c.loop-message-test.true c.message-item.is c.loop-message.invariant
