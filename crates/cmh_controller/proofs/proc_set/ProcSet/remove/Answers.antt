use Rattle.std.proofs.Common.{not, ◌==◌, ap, ◌∙◌, nat_cmp, rules}
use Rattle.std.specs.FinSet as set
use Rattle.std.proofs.lemmas.Fn.{filter_same}
use Rattle.cmh_frames.specs.Relation.{Numbers}
use Rattle.cmh_controller.proofs.TakingBack.{from_list_removed}
use Rattle.cmh_controller.proofs.proc_set.ProcSet.remove.Goals as goal

pub returns : goal.returns
returns c =
    let left = filter_same _ (λ q. not (q == c.args.process)) _ (λ x b f k. search rules) _ _ c.retain.ensures.filtered in
    ap (set.from_list {R = nat_cmp}) left
    ∙ from_list_removed c.self.inside.processes.items c.args.process
    ∙ ap (λ (s : Numbers). set.remove s c.args.process) c.self.view_is
