use Rattle.std.proofs.Common.{ap, ◌∙◌, ◌==◌}
use Rattle.std.specs.List.{list_any}
use Rattle.cmh_topology3.specs.Topology.{sites_of}
use Rattle.cmh_play3.proofs.Places.{none_missed, stands_at}
use Rattle.cmh_play3.proofs.playground.place_of.Goals as goal

pub unreachable-requires : goal.unreachable-requires
unreachable-requires c =
    none_missed c.sites.result.now c.args.site c.in_default.field-0 c.sites.ensures.ascending c.in_default.ensures.position
    (ap (list_any (λ q. q == c.args.site)) c.sites.ensures.value ∙ c.requires)

pub returns-clause-site : goal.returns-clause-site
returns-clause-site c = stands_at c.sites.result.now (sites_of c.args.topology.now) c.args.site c.in-Ok.place c.sites.ensures.value c.sites.ensures.ascending c.in-Ok.ensures.position
