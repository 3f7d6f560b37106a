use Rattle.std.proofs.Common.{arith, inr, refl}
use Rattle.std.specs.Vec.{vec_len}
use Rattle.std.proofs.lemmas.Result.{IfOk-weaker}
use Rattle.cmh_cluster3.proofs.Doing.{does_at, not_below}
use Rattle.cmh_cluster3.proofs.Going.{at_place, down_past}
use Rattle.cmh_cluster3.proofs.world.World.act.Goals as goal

pub returns-in-Some : goal.returns-in-Some
returns-in-Some g c =
    let nodes = c.args.self.now.nodes in
    IfOk-weaker c.act.result _ _ (λ reply does.
    does_at g.F.SegmentFile.told g.F.SegmentFile.has_failed nodes.items c.args.place c.in-Some.site.now c.act.new.site c.args.deed reply
    (at_place nodes.items c.args.place c.in-Some.site.now (omega (arith, c.in-Some.ensures.variant.0 refl, nodes.ok.0)) c.in-Some.ensures.value) does) c.act.ensures

pub returns-in-None : goal.returns-in-None
returns-in-None g c =
    let nodes = c.args.self.now.nodes in
    inr (down_past nodes.items c.args.place (omega (arith, not_below c.args.place (vec_len nodes) c.in-None.ensures.variant.1, nodes.ok.0)), refl, refl)
