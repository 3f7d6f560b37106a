use Rattle.std.proofs.Common.{ap, sym, ◌∙◌, refl}
use Rattle.cmh_frames.specs.Topology.{home_in}
use Rattle.cmh_topology3.proofs.Built.{are_tidy, is_topology_of}
use Rattle.cmh_topology3.proofs.topology.Topology.build.Goals as goal

pub invariant_of-result : goal.invariant_of-result
invariant_of-result c =
    let rows = c.in_ok-rows.rows.items in
    let sites_are = c.in_ok-rows.ensures.sites ∙ c.deref.ensures.value in (
      are_tidy c.args.world c.args.given.now rows _ c.requires c.in_ok-sites.ensures sites_are c.in_ok-rows.ensures.members,
      sym sites_are,
      (λ p. c.in_ok-homes.ensures p ∙ ap (λ xs. home_in xs p) c.deref-2.ensures.value),
    )

pub returns : goal.returns
returns c =
    let rows = c.in_ok-rows.rows.items in
    let sites_are = c.in_ok-rows.ensures.sites ∙ c.deref.ensures.value in
    is_topology_of c.args.world c.args.given.now rows _ c.requires c.in_ok-sites.ensures sites_are c.in_ok-rows.ensures.members _ refl refl
