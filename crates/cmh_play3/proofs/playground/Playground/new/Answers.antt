use Rattle.std.proofs.Common.{[], sym, refl, subst}
use Rattle.cmh_model3.proofs.Extends.{nothing_is_run}
use Rattle.cmh_topology3.specs.Topology.{Topology, site_of}
use Rattle.cmh_play3.specs.Held.{StandAfter}
use Rattle.cmh_play3.proofs.Taking.{nothing_kept}
use Rattle.cmh_play3.proofs.playground.Playground.new.Goals as goal

pub returns-clause-played : goal.returns-clause-played
returns-clause-played c =
    let u = c.in_ok-copy.field-0 in
    let cs = c.in_ok-new_controllers.field-0.items in
    let fresh = c.in_ok-new_controllers.ensures in
    record {
      run = nothing_is_run (site_of u);
      stand = subst (λ (w : Topology). StandAfter w [] cs) (sym c.in_ok-copy.ensures)
          (record { sites = fresh.of_sites; topologies = fresh.topologies; states = fresh.first; of_world = tt });
      links = λ a b. c.new-2.ensures.empty a b;
      kept_are = nothing_kept c.new.result.items c.new.ensures.items;
      sent_is = refl;
    }
