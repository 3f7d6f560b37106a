use Rattle.std.proofs.Common.{rules, List, subst, ◌∙◌}
use Rattle.cmh_model3.specs.declared.event.Event.{Event}
use Rattle.cmh_node3.specs.Steps.{StepsAll}
use Rattle.cmh_clients3.proofs.Answered.{alone}
use Rattle.cmh_clients3.proofs.replying.step_one.Goals as goal

pub returns-in-Some : goal.returns-in-Some
returns-in-Some g c =
    let told = g.F.SegmentFile.told in
    let works = g.F.SegmentFile.has_failed in
    alone told works c.args.node.now c.step_all.new.self c.args.event.now c.in-Ok-step_all.answers.items c.in-Some.answer.now c.reply_of.result
    (subst (λ (events : List Event). StepsAll told works c.args.node.now events c.in-Ok-step_all.answers.items c.step_all.new.self) (c.deref.ensures.value ∙ c.in-Ok.ensures) c.in-Ok-step_all.ensures.ok)
    (search rules) c.reply_of.ensures
