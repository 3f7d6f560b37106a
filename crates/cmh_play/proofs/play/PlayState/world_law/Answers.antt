use Rattle.std.proofs.Common.{subst}
use Rattle.cmh_play.proofs.Led.{world_named, world_played}
use Rattle.cmh_play.specs.Showing.{IsShown}
use Rattle.cmh_play.specs.declared.play.PlayState.{PlayState as HeldState}
use Rattle.cmh_play.proofs.play.PlayState.world_law.Goals as goal

pub returns-in-Named : goal.returns-in-Named
returns-in-Named c = λ keeps state shown.
    world_named c.in-Named.draft c.topology.result.now c.topology.ensures keeps state (subst (λ (h : HeldState). IsShown keeps state h) c.in-Named.is shown)

pub returns-in_default : goal.returns-in_default
returns-in_default c = λ keeps state shown.
    world_played c.in_default.field-0 keeps state (subst (λ (h : HeldState). IsShown keeps state h) c.in_default.is shown)
