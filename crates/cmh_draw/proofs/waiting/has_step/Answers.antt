use Rattle.std.proofs.Common.{◌∙◌}
use Rattle.cmh_draw.proofs.StepLemmas.{steps_are}
use Rattle.cmh_draw.proofs.waiting.has_step.Goals as goal

pub returns : goal.returns
returns c = c.steps.ensures ∙ steps_are c.args.asker c.args.holder c.args.members.now
