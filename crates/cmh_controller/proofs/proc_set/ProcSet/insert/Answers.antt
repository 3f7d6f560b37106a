use Rattle.std.proofs.Common.{ap, ◌∙◌, nat_cmp}
use Rattle.std.specs.Cmp.{nat_cmp_total}
use Rattle.std.specs.FinSet.{FinSet, insert, from_list, from_list_push, nat_cmp-IsAntisymmetric}
use Rattle.cmh_controller.proofs.proc_set.ProcSet.insert.Goals as goal

pub returns-clause-ok : goal.returns-clause-ok
returns-clause-ok c =
    ap (from_list {R = nat_cmp}) c.in_ok-push.ensures.items
    ∙ from_list_push nat_cmp_total nat_cmp-IsAntisymmetric _ _
    ∙ ap (λ (s : FinSet nat_cmp). insert s c.args.process) c.self.view_is
