use Rattle.std.proofs.Common.{List}
use Rattle.std.specs.Prelude.{OnOk, Result, Ok, Err}
use Rattle.cmh_play3.specs.Held.{world_of}
use Rattle.cmh_play3.proofs.playing.keep_state.Goals as goal

on_ok : {X E : Type 0} (r : Result X E) (P Q : Type 0) → (P → Q) → OnOk r P → OnOk r Q
on_ok (Ok x) P Q leads h = leads h
on_ok (Err e) P Q leads h = tt

pub keep_each-requires : goal.keep_each-requires
keep_each-requires g c =
    let leads = c.in_ok-world.ensures c.requires.0 c.requires.1 in
    (leads.events, leads.played)

pub returns : goal.returns
returns g c =
    on_ok c.keep_each.result _ _
    (λ kept events shows.
    let leads = c.in_ok-world.ensures events shows in
    record { world = world_of c.in_ok-world.world leads.events; stands = leads.done; kept = kept leads.events leads.played }) c.keep_each.ensures
