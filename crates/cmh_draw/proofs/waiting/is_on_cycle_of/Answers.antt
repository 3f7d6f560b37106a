use Rattle.std.proofs.Common.{ℕ, [], List, Option, ap, sym, ◌∙◌}
use Rattle.std.specs.Prelude.{unwrap_or}
use Rattle.cmh_draw.specs.Inner.Steps.{has_step}
use Rattle.cmh_draw.proofs.waiting.is_on_cycle_of.Goals as goal

pub returns-in-Some : goal.returns-in-Some
returns-in-Some c =
    c.has_step.ensures
    ∙ ap (λ (o : Option (List ℕ)). has_step c.args.asker c.args.holder (unwrap_or o [])) (sym c.in-Some.ensures.some)
