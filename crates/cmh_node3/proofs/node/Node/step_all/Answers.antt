use Rattle.std.proofs.Common.{◌≡◌, ◌&&◌, false, List, ◌++◌, sym, ap, ◌∙◌}
use Rattle.std.specs.List.{list_any}
use Rattle.cmh_node3.specs.Peers.{keeps_many}
use Rattle.cmh_node3.specs.declared.peer.Peer.{Peer}
use Rattle.cmh_node3.specs.Nodes.{Node, kept_last}
use Rattle.cmh_node3.specs.Steps.{entries_made, is_ask}
use Rattle.cmh_node3.proofs.Taking.{exact_failed, failed_by, steps_all}
use Rattle.cmh_node3.proofs.node.Node.step_all.Goals as goal

pub invariant_of-self : goal.invariant_of-self
invariant_of-self g c =
    let told = g.F.SegmentFile.told in
    let works = g.F.SegmentFile.has_failed in
    let s = c.self.inside in
    let n : Node g.row.F.Denot = record { world = s.world; site = s.site; station = s.station; peers = s.peers.items; others = s.others.items; sealed = s.sealed; last = kept_last s.last } in
    let steps = c.self.invariant.0 in
    let allowed : (list_any is_ask c.args.events.now && list_any keeps_many s.peers.items) ≡ false =
    sym (c.must_wait.ensures ∙ ap (λ (l : List Peer). list_any is_ask c.args.events.now && list_any keeps_many l) c.deref.ensures.value) ∙ c.if-must_wait.false in
    let all = steps_all told works n steps c.args.events.now c.in-Ok.answers.items c.step_all.new.self c.settle-settled.new.station c.settle-settled.new.peers.items c.settle-settled.result.sealed c.settle-settled.result.last c.in-None.is c.in-Ok.ensures.ok
    c.in-Ok.ensures.story c.settle-settled.ensures.last c.settle-settled.ensures.handed c.settle-settled.ensures.story c.settle-settled.ensures.given c.self.invariant.1 c.requires allowed in
    (steps ++ entries_made told works c.args.events.now c.in-Ok.answers.items, all.exact steps c.self.invariant.1)

pub returns-in-Ok-clause-ok : goal.returns-in-Ok-clause-ok
returns-in-Ok-clause-ok g c =
    let told = g.F.SegmentFile.told in
    let works = g.F.SegmentFile.has_failed in
    let s = c.self.inside in
    let n : Node g.row.F.Denot = record { world = s.world; site = s.site; station = s.station; peers = s.peers.items; others = s.others.items; sealed = s.sealed; last = kept_last s.last } in
    let steps = c.self.invariant.0 in
    let allowed : (list_any is_ask c.args.events.now && list_any keeps_many s.peers.items) ≡ false =
    sym (c.must_wait.ensures ∙ ap (λ (l : List Peer). list_any is_ask c.args.events.now && list_any keeps_many l) c.deref.ensures.value) ∙ c.if-must_wait.false in
    rw (← c.self.view_is) (steps_all told works n steps c.args.events.now c.in-Ok.answers.items c.step_all.new.self c.settle-settled.new.station c.settle-settled.new.peers.items c.settle-settled.result.sealed c.settle-settled.result.last c.in-None.is c.in-Ok.ensures.ok
    c.in-Ok.ensures.story c.settle-settled.ensures.last c.settle-settled.ensures.handed c.settle-settled.ensures.story c.settle-settled.ensures.given c.self.invariant.1 c.requires allowed)

pub invariant_of-self-in-Err : goal.invariant_of-self-in-Err
invariant_of-self-in-Err g c =
    let told = g.F.SegmentFile.told in
    let works = g.F.SegmentFile.has_failed in
    let s = c.self.inside in
    let n : Node g.row.F.Denot = record { world = s.world; site = s.site; station = s.station; peers = s.peers.items; others = s.others.items; sealed = s.sealed; last = kept_last s.last } in
    let steps = c.self.invariant.0 in (
      steps,
      exact_failed told works n steps c.args.events.now c.in-Err.refusal c.step_all.new.self c.fault_of-fault.result c.sealed_by_fault-self-inside.result c.self.invariant.1 c.in-None.is c.in-Err.ensures.refused
          c.in-Err.ensures.same_story c.fault_of-fault.ensures c.sealed_by_fault-self-inside.ensures,
    )

pub returns-in-Err-clause-not : goal.returns-in-Err-clause-not
returns-in-Err-clause-not g c =
    let told = g.F.SegmentFile.told in
    let works = g.F.SegmentFile.has_failed in
    let s = c.self.inside in
    let n : Node g.row.F.Denot = record { world = s.world; site = s.site; station = s.station; peers = s.peers.items; others = s.others.items; sealed = s.sealed; last = kept_last s.last } in
    let steps = c.self.invariant.0 in
    rw (← c.self.view_is) (
      c.in-None.is,
      failed_by told works n steps c.args.events.now c.in-Err.refusal c.step_all.new.self c.fault_of-fault.result c.sealed_by_fault-self-inside.result c.self.invariant.1 c.in-None.is c.in-Err.ensures.refused
          c.in-Err.ensures.same_story c.fault_of-fault.ensures c.sealed_by_fault-self-inside.ensures,
    )
