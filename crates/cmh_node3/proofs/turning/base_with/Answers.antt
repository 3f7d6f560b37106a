use Rattle.std.proofs.Common.{◌∙◌, ap}
use Rattle.cmh_controller3.specs.Controller.{state_of}
use Rattle.cmh_segment3.specs.States.{base_of, stamp_of}
use Rattle.cmh_node3.proofs.turning.base_with.Goals as goal

pub returns-in-Ok-base_of-clause-base : goal.returns-in-Ok-base_of-clause-base
returns-in-Ok-base_of-clause-base c =
    c.in-Ok-base_of.ensures.value ∙ ap (base_of (state_of c.args.controller.now) (stamp_of c.args.stops.now)) c.in-Ok.ensures.links
