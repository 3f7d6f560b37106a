use Rattle.std.proofs.Common.{List, sym, subst, ◌∙◌}
use Rattle.std.specs.List.{AllByRecursion}
use Rattle.cmh_draw.specs.Arrows.{IsForward}
use Rattle.cmh_draw.specs.declared.mark.Arrow.{Arrow}
use Rattle.cmh_draw.proofs.ArrowLemmas.{all_forward}
use Rattle.cmh_draw.proofs.arrows.forward.Goals as goal

pub returns-then-go_forward-clause-forward : goal.returns-then-go_forward-clause-forward
returns-then-go_forward-clause-forward c =
    subst (λ (l : List Arrow). AllByRecursion IsForward l) c.deref.ensures.value
    (all_forward c.deref.result.now (sym c.go_forward.ensures ∙ c.if-go_forward.true))
