use Rattle.std.proofs.Common.{◌≡◌, ◌<◌, List, length, map, Some, sym, ap, ◌∙◌, subst}
use Rattle.std.specs.List.{list_any}
use Rattle.cmh_model3.specs.declared.event.Event.{Event}
use Rattle.cmh_node3.specs.declared.peer.Peer.{Peer}
use Rattle.cmh_node3.specs.Nodes.{Node, kept_last}
use Rattle.cmh_node3.specs.Steps.{FailsSo, IsClaimant, accepted, got_event, is_unlawful}
use Rattle.cmh_node3.proofs.Taking.{can_count, exact_failed, failed_by, takes_by}
use Rattle.cmh_node3.proofs.node.Node.take.Goals as goal

pub receive_at-requires-clause-claimed : goal.receive_at-requires-clause-claimed
receive_at-requires-clause-claimed g c = λ d.
    let s = c.self.inside in
    (subst (λ (l : List Peer). IsClaimant l c.args.place c.args.line (Some c.in-Some-claimant.from)) c.deref.ensures.value c.in-Some-claimant.ensures d).1

pub receive_at-requires-clause-countable : goal.receive_at-requires-clause-countable
receive_at-requires-clause-countable g c = λ d some.
    let s = c.self.inside in
    can_count s.peers.items c.args.place c.index.result.now d c.args.messages.now c.first_of-first.result.now c.taken_by-taken.result.count
    (subst (λ (x : Node g.row.F.Denot). c.args.place < length x.peers) (sym c.self.view_is) c.requires) c.index.ensures (c.can_count.ensures c.if-not-can_count.false) c.first_of-first.ensures

pub invariant_of-self : goal.invariant_of-self
invariant_of-self g c =
    let told = g.F.SegmentFile.told in
    let works = g.F.SegmentFile.has_failed in
    let s = c.self.inside in
    let n : Node g.row.F.Denot = record { world = s.world; site = s.site; station = s.station; peers = s.peers.items; others = s.others.items; sealed = s.sealed; last = kept_last s.last } in
    let steps = c.self.invariant.0 in
    let ok = c.in-Ok-step_until in
    let whose : IsClaimant s.peers.items c.args.place c.args.line (Some c.in-Some-claimant.from) = subst (λ (l : List Peer). IsClaimant l c.args.place c.args.line (Some c.in-Some-claimant.from)) c.deref.ensures.value c.in-Some-claimant.ensures in
    let are : c.deref-2.result.now ≡ map (got_event c.in-Some-claimant.from) c.args.messages.now = c.deref-2.ensures.value ∙ c.in-Ok.ensures in
    let count : c.taken_by-taken.result.count ≡ accepted ok.answers.items = c.taken_by-taken.ensures.count ∙ ap accepted c.deref-in-Ok-step_until.ensures.value in
    let closed : c.taken_by-taken.result.closed ≡ list_any is_unlawful ok.answers.items = c.taken_by-taken.ensures.closed ∙ ap (list_any is_unlawful) c.deref-in-Ok-step_until.ensures.value in
    let all = takes_by told works n steps c.args.place c.args.line c.args.messages.now c.first_of-first.result.now c.args.now c.taken_by-taken.result c.deref-2.result.now c.in-Some-claimant.from ok.answers.items
    c.step_until.new.self c.settle-settled.new.station c.receive_at.new.peers.items c.settle-settled.new.peers.items c.settle-settled.result.sealed c.settle-settled.result.last c.in-None.is c.receive_at.ensures ok.ensures.ok ok.ensures.until ok.ensures.story
    c.settle-settled.ensures.last c.settle-settled.ensures.handed c.settle-settled.ensures.story c.settle-settled.ensures.given c.self.invariant.1 whose count closed are c.first_of-first.ensures in
    (_, all.exact steps c.self.invariant.1)

pub returns-in-Ok-step_until-clause-ok : goal.returns-in-Ok-step_until-clause-ok
returns-in-Ok-step_until-clause-ok g c =
    let told = g.F.SegmentFile.told in
    let works = g.F.SegmentFile.has_failed in
    let s = c.self.inside in
    let n : Node g.row.F.Denot = record { world = s.world; site = s.site; station = s.station; peers = s.peers.items; others = s.others.items; sealed = s.sealed; last = kept_last s.last } in
    let steps = c.self.invariant.0 in
    let ok = c.in-Ok-step_until in
    let whose : IsClaimant s.peers.items c.args.place c.args.line (Some c.in-Some-claimant.from) = subst (λ (l : List Peer). IsClaimant l c.args.place c.args.line (Some c.in-Some-claimant.from)) c.deref.ensures.value c.in-Some-claimant.ensures in
    let are : c.deref-2.result.now ≡ map (got_event c.in-Some-claimant.from) c.args.messages.now = c.deref-2.ensures.value ∙ c.in-Ok.ensures in
    let count : c.taken_by-taken.result.count ≡ accepted ok.answers.items = c.taken_by-taken.ensures.count ∙ ap accepted c.deref-in-Ok-step_until.ensures.value in
    let closed : c.taken_by-taken.result.closed ≡ list_any is_unlawful ok.answers.items = c.taken_by-taken.ensures.closed ∙ ap (list_any is_unlawful) c.deref-in-Ok-step_until.ensures.value in
    let all = takes_by told works n steps c.args.place c.args.line c.args.messages.now c.first_of-first.result.now c.args.now c.taken_by-taken.result c.deref-2.result.now c.in-Some-claimant.from ok.answers.items
    c.step_until.new.self c.settle-settled.new.station c.receive_at.new.peers.items c.settle-settled.new.peers.items c.settle-settled.result.sealed c.settle-settled.result.last c.in-None.is c.receive_at.ensures ok.ensures.ok ok.ensures.until ok.ensures.story
    c.settle-settled.ensures.last c.settle-settled.ensures.handed c.settle-settled.ensures.story c.settle-settled.ensures.given c.self.invariant.1 whose count closed are c.first_of-first.ensures in
    rw (← c.self.view_is) all

pub invariant_of-self-in-Err : goal.invariant_of-self-in-Err
invariant_of-self-in-Err g c =
    let told = g.F.SegmentFile.told in
    let works = g.F.SegmentFile.has_failed in
    let s = c.self.inside in
    let n : Node g.row.F.Denot = record { world = s.world; site = s.site; station = s.station; peers = s.peers.items; others = s.others.items; sealed = s.sealed; last = kept_last s.last } in
    let steps = c.self.invariant.0 in (
      steps,
      exact_failed told works n steps _ c.in-Err.refusal c.step_until.new.self c.fault_of-fault.result c.sealed_by_fault-self-inside.result c.self.invariant.1 c.in-None.is c.in-Err.ensures.refused
          c.in-Err.ensures.same_story c.fault_of-fault.ensures c.sealed_by_fault-self-inside.ensures,
    )

pub returns-clause-not : goal.returns-clause-not
returns-clause-not g c =
    let told = g.F.SegmentFile.told in
    let works = g.F.SegmentFile.has_failed in
    let s = c.self.inside in
    let n : Node g.row.F.Denot = record { world = s.world; site = s.site; station = s.station; peers = s.peers.items; others = s.others.items; sealed = s.sealed; last = kept_last s.last } in
    let steps = c.self.invariant.0 in
    let from = c.in-Some-claimant.from in
    let whose : IsClaimant s.peers.items c.args.place c.args.line (Some from) = subst (λ (l : List Peer). IsClaimant l c.args.place c.args.line (Some from)) c.deref.ensures.value c.in-Some-claimant.ensures in
    let are : c.deref-2.result.now ≡ map (got_event from) c.args.messages.now = c.deref-2.ensures.value ∙ c.in-Ok.ensures in
    let b : Node g.row.F.Denot = record n { station = c.step_until.new.self; sealed = c.sealed_by_fault-self-inside.result } in
    rw (← c.self.view_is) (record {
      was_open = c.in-None.is;
      from = from;
      claimed = whose;
      fails = subst (λ (l : List Event). FailsSo told works n l c.fault_of-fault.result b) are
          (failed_by told works n steps _ c.in-Err.refusal c.step_until.new.self c.fault_of-fault.result c.sealed_by_fault-self-inside.result c.self.invariant.1 c.in-None.is
          c.in-Err.ensures.refused c.in-Err.ensures.same_story c.fault_of-fault.ensures c.sealed_by_fault-self-inside.ensures);
    })
