use Rattle.cmh_cluster3.proofs.world.World.is_up.Goals as goal

pub returns-in-Some-clause-up : goal.returns-in-Some-clause-up
returns-in-Some-clause-up g c = λ up. (c.in-Some.field-0.now, rw c.deref.ensures.value at c.in-Some.ensures)
