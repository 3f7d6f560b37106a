use Rattle.std.proofs.Common.{inl, refl}
use Rattle.cmh_cluster3.proofs.world.World.tell.Goals as goal

pub returns-in_ok-tell-in-Some : goal.returns-in_ok-tell-in-Some
returns-in_ok-tell-in-Some g c = inl (
  c.in_ok-tell-in-Some.field-0,
  record { site = c.in-Some.node.now; there = rw c.deref.ensures.value at c.in-Some.ensures; answers = c.in_ok-tell-in-Some.ensures },
  refl,
)
