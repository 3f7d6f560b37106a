use Rattle.std.proofs.Common.{◌∙◌, ap, subst, refl, ℕ, List, ◌++◌, map}
use Rattle.std.specs.List.{Contains}
use Rattle.cmh_model3.specs.Rules.{probe_along}
use Rattle.cmh_topology3.specs.Topology.{site_of}
use Rattle.cmh_waits3.specs.Held.{state_of}
use Rattle.cmh_controller3.proofs.Seeing.{edge_known, sees_none, waits_alone}
use Rattle.cmh_controller3.proofs.sending.look_from_ask.Goals as goal

pub probes-requires : goal.probes-requires
probes-requires c = λ edge member.
    let here = c.args.here.now in
    let found = rw c.in-Edges.is at (c.in_ok-finding_of_ask.ensures (site_of here.topology.now) here.site (state_of here.waits.now) (waits_alone here.topology.now here.site here.waits.now c.requires.of_site)) in
    edge_known here.topology.now here.site here.waits.now _ _ _ c.in-Edges.edges.items c.requires.of_site found.1 edge (subst (λ (es : List (ℕ × ℕ)). Contains es edge) c.deref.ensures.value member)

pub returns-in-Deadlock : goal.returns-in-Deadlock
returns-in-Deadlock c = λ v waits.
    let found = rw c.in-Deadlock.is at (c.in_ok-finding_of_ask.ensures (site_of c.args.here.now.topology.now) c.args.here.now.site v waits) in
    (found, refl)

pub returns-in_ok-probes-in-Edges : goal.returns-in_ok-probes-in-Edges
returns-in_ok-probes-in-Edges c = λ v waits.
    let here = c.args.here.now in
    let found = rw c.in-Edges.is at (c.in_ok-finding_of_ask.ensures (site_of here.topology.now) here.site v waits) in
    sees_none (site_of here.topology.now) here.site v _ _ _ _ c.args.ask.now.origin _ _ c.in-Edges.edges.items found.0 found.1 (c.in_ok-probes-in-Edges.ensures ∙ ap (λ (es : List (ℕ × ℕ)). c.args.sent.items ++ map (probe_along (site_of here.topology.now) c.args.ask.now.stamp c.args.ask.now.origin c.args.ask.now.stamp) es) c.deref.ensures.value)
