use Rattle.std.proofs.Common.{sym, ap, ◌∙◌}
use Rattle.cmh_model3.specs.Journals.{message_from}
use Rattle.cmh_audit3.proofs.Walks.{came_none, came_this}
use Rattle.cmh_audit3.proofs.walk.got_message.Goals as goal

pub returns-in-Got : goal.returns-in-Got
returns-in-Got c from got came =
    came_this c.are_equal.result c.in-Got.from (record { clock = c.in-Got.clock; frame = c.in-Got.frame }) c.args.message.now c.are_equal.ensures.0 c.are_equal.ensures.1 from got
    (λ s. sym (ap (message_from s) c.in-Got.is) ∙ came s)

pub returns-in_default : goal.returns-in_default
returns-in_default c from got came same = came_none c.args.event.now c.in_default.not-Got from got came
