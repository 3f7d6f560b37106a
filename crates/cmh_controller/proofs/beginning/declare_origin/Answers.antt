use Rattle.std.proofs.Common.{ap, ◌∙◌}
use Rattle.cmh_frames.specs.Relation.{Relation, without_pair}
use Rattle.cmh_controller.proofs.TakingBack.{put_and_taken}
use Rattle.cmh_controller.proofs.beginning.declare_origin.Goals as goal

pub returns-in-Err-clause-none_added : goal.returns-in-Err-clause-none_added
returns-in-Err-clause-none_added c =
    c.take_back.ensures ∙ ap (λ (r : Relation). without_pair r c.args.receiver c.args.origin) c.in_ok-add.ensures.ok ∙ put_and_taken c.args.dependents.now c.args.receiver c.args.origin c.requires
