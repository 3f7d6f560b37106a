use Rattle.std.proofs.Common.{◌==◌, List, length, ap, ◌∙◌, subst}
use Rattle.cmh_merge.specs.Queues.{waiting}
use Rattle.cmh_topology3.specs.Topology.{sites_of}
use Rattle.cmh_runs.proofs.Beginnings.{empty_list}
use Rattle.cmh_audit3.specs.declared.stops.Stop.{Stop}
use Rattle.cmh_audit3.proofs.Ends.{as_many_stand}
use Rattle.cmh_audit3.proofs.Sets.{world_parts}
use Rattle.cmh_audit3.proofs.Verdicts.{is_none, is_some}
use Rattle.cmh_history3.specs.Between.{AreAgreed, IsDisagreement}
use Rattle.cmh_history3.specs.Worlds.{state_at}
use Rattle.cmh_history3.proofs.Agreed.{never_both}
use Rattle.cmh_history3.proofs.Ends.{end_is, from_bases, no_run, stops_are}
use Rattle.cmh_history3.proofs.Queueing.{rise_distinct}
use Rattle.cmh_history3.proofs.Standing.{stand_in}
use Rattle.cmh_history3.proofs.epoch_verdict.audit_epoch.Goals as goal

pub queues_of-requires : goal.queues_of-requires
queues_of-requires c = rise_distinct c.sites-sites.result.now c.sites-sites.ensures.ascending

pub judge-requires-clause-known : goal.judge-requires-clause-known
judge-requires-clause-known c = (world_parts c.args.topology.now c.args.segments.now c.requires.set.of_world).no_stranger

pub judge-requires-clause-once : goal.judge-requires-clause-once
judge-requires-clause-once c = (world_parts c.args.topology.now c.args.segments.now c.requires.set.of_world).once

pub judge-requires-clause-controllers : goal.judge-requires-clause-controllers
judge-requires-clause-controllers c =
    let t = c.args.topology.now in
    let gs = c.args.segments.now in
    as_many_stand t (state_at gs) gs c.args.controllers.items (stand_in t gs c.args.controllers.items (world_parts t gs c.requires.set.of_world).once c.requires.stand)

-- the bases do not agree
pub returns-in-Some-clause-refused : goal.returns-in-Some-clause-refused
returns-in-Some-clause-refused c = subst (λ sites. IsDisagreement sites c.args.segments.now c.in-Some.link) c.sites-sites.ensures.value c.in-Some.ensures

pub returns-in-Some-clause-accepted : goal.returns-in-Some-clause-accepted
returns-in-Some-clause-accepted c =
    let refused = returns-in-Some-clause-refused c in
    ((λ none. absurd none), (λ both. absurd (never_both (sites_of c.args.topology.now) c.args.segments.now c.in-Some.link refused both.0)))

-- they do, and no site stops
pub returns-then-is_empty-clause-ends : goal.returns-then-is_empty-clause-ends
returns-then-is_empty-clause-ends c =
    let t = c.args.topology.now in
    let gs = c.args.segments.now in
    let judged = c.in_ok-order.field-0 in
    let are = from_bases t gs c.args.controllers.items c.sites-sites.result.now (waiting c.in_ok-queues.queues) judged c.requires.set c.requires.stand c.sites-sites.ensures.value c.in_ok-queues.ensures c.in_ok-order.ensures in
    end_is t gs judged are (empty_list judged.stops (is_none judged.stops c.is_empty.result (c.is_empty.ensures ∙ ap (λ (l : List Stop). length l == 0) c.as_slice.ensures) c.if-is_empty.true))

pub returns-then-is_empty-clause-accepted : goal.returns-then-is_empty-clause-accepted
returns-then-is_empty-clause-accepted c =
    let ended = returns-then-is_empty-clause-ends c in
    let agreed = subst (λ sites. AreAgreed sites c.args.segments.now) c.sites-sites.ensures.value c.in_default.ensures in
    ((λ _. (agreed, record { events = ended.events; run = ended.run; kept = ended.kept })), (λ _. tt))

-- they do, and some do
pub returns-else-is_empty-clause-refused : goal.returns-else-is_empty-clause-refused
returns-else-is_empty-clause-refused c =
    let t = c.args.topology.now in
    let gs = c.args.segments.now in
    let judged = c.in_ok-order.field-0 in
    let are = from_bases t gs c.args.controllers.items c.sites-sites.result.now (waiting c.in_ok-queues.queues) judged c.requires.set c.requires.stand c.sites-sites.ensures.value c.in_ok-queues.ensures c.in_ok-order.ensures in (
      subst (λ sites. AreAgreed sites gs) c.sites-sites.ensures.value c.in_default.ensures,
      stops_are t gs judged are (is_some judged.stops c.is_empty.result (c.is_empty.ensures ∙ ap (λ (l : List Stop). length l == 0) c.as_slice.ensures) c.if-is_empty.false),
    )

pub returns-else-is_empty-clause-accepted : goal.returns-else-is_empty-clause-accepted
returns-else-is_empty-clause-accepted c =
    let t = c.args.topology.now in
    let gs = c.args.segments.now in
    let judged = c.in_ok-order.field-0 in
    let are = from_bases t gs c.args.controllers.items c.sites-sites.result.now (waiting c.in_ok-queues.queues) judged c.requires.set c.requires.stand c.sites-sites.ensures.value c.in_ok-queues.ensures c.in_ok-order.ensures in
    let some = is_some judged.stops c.is_empty.result (c.is_empty.ensures ∙ ap (λ (l : List Stop). length l == 0) c.as_slice.ensures) c.if-is_empty.false in
    ((λ none. absurd none), (λ both. absurd (no_run t gs judged are some both.1)))
