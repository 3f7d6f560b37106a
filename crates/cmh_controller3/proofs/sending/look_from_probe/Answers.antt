use Rattle.std.proofs.Common.{◌≡◌, ◌∙◌, ap, subst, true, ℕ, List, [], ◌++◌, map}
use Rattle.std.specs.List.{Contains}
use Rattle.cmh_model3.specs.declared.frame.Message.{Message}
use Rattle.cmh_model3.specs.Paths.{ReachesLocally}
use Rattle.cmh_model3.specs.State.{passes}
use Rattle.cmh_model3.specs.Rules.{probe_along}
use Rattle.cmh_topology3.specs.Topology.{site_of}
use Rattle.cmh_waits3.specs.Held.{state_of}
use Rattle.cmh_controller3.proofs.Seeing.{edge_known, sees_none, waits_alone}
use Rattle.cmh_controller3.proofs.sending.look_from_probe.Goals as goal

pub probes-requires : goal.probes-requires
probes-requires c = λ edge member.
    let here = c.args.here.now in
    let found = rw c.in-Edges.is at (c.in_ok-finding_of_probe.ensures (site_of here.topology.now) here.site (state_of here.waits.now) (waits_alone here.topology.now here.site here.waits.now c.requires.of_site)) in
    edge_known here.topology.now here.site here.waits.now _ _ _ c.in-Edges.edges.items c.requires.of_site found.1 edge (subst (λ (es : List (ℕ × ℕ)). Contains es edge) c.deref.ensures.value member)

pub returns-in-Deadlock : goal.returns-in-Deadlock
returns-in-Deadlock c = λ v waits.
    let found = rw c.in-Deadlock.is at (c.in_ok-finding_of_probe.ensures (site_of c.args.here.now.topology.now) c.args.here.now.site v waits) in
    (found, c.new.ensures.items)

pub returns-in_ok-probes-in-Edges : goal.returns-in_ok-probes-in-Edges
returns-in_ok-probes-in-Edges c = λ v waits.
    let here = c.args.here.now in
    let found = rw c.in-Edges.is at (c.in_ok-finding_of_probe.ensures (site_of here.topology.now) here.site v waits) in
    sees_none (site_of here.topology.now) here.site v
    (ReachesLocally (site_of here.topology.now) here.site v c.args.ask.now.stamp c.args.ask.now.origin c.args.at c.args.ask.now.origin × (passes v c.args.ask.now.stamp c.args.ask.now.origin c.args.ask.now.origin ≡ true))
    c.args.clock c.args.ask.now.origin c.args.ask.now.stamp c.args.at [] c.in_ok-probes-in-Edges.field-0.items c.in-Edges.edges.items found.0 found.1 (c.in_ok-probes-in-Edges.ensures ∙ ap (λ (es : List (ℕ × ℕ)). c.new-in-Edges.result.items ++ map (probe_along (site_of here.topology.now) c.args.clock c.args.ask.now.origin c.args.ask.now.stamp) es) c.deref.ensures.value ∙ ap (λ (ms : List (ℕ × Message)). ms ++ map (probe_along (site_of here.topology.now) c.args.clock c.args.ask.now.origin c.args.ask.now.stamp) c.in-Edges.edges.items) c.new-in-Edges.ensures.items)
