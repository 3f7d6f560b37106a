use Rattle.std.proofs.Common.{◌==◌, List, length, refl, sym, ap, ◌∙◌, true≢false}
use Rattle.cmh_runs.proofs.Beginnings.{empty_list}
use Rattle.cmh_merge.specs.Queues.{waiting}
use Rattle.cmh_model3.specs.State.{empty_state}
use Rattle.cmh_audit3.specs.declared.stops.Stop.{Stop}
use Rattle.cmh_audit3.proofs.Ends.{as_many_stand, stand_at_ends}
use Rattle.cmh_audit3.proofs.Sets.{set_parts}
use Rattle.cmh_audit3.proofs.Verdicts.{first_judgement, is_none, is_some, no_run, order_is, stops_are}
use Rattle.cmh_audit3.proofs.verdict.audit.Goals as goal

pub judge-requires-clause-known : goal.judge-requires-clause-known
judge-requires-clause-known c = (set_parts c.args.topology.now c.args.segments.now c.requires).no_stranger

pub judge-requires-clause-once : goal.judge-requires-clause-once
judge-requires-clause-once c = (set_parts c.args.topology.now c.args.segments.now c.requires).once

pub judge-requires-clause-controllers : goal.judge-requires-clause-controllers
judge-requires-clause-controllers c = as_many_stand c.args.topology.now (λ s. empty_state) c.args.segments.now c.in_ok-controllers.controllers.items c.in_ok-controllers.ensures

pub returns-then-is_empty-clause-order : goal.returns-then-is_empty-clause-order
returns-then-is_empty-clause-order c =
    let t = c.args.topology.now in
    let gs = c.args.segments.now in
    let judged = c.in_ok-order.field-0 in
    order_is t gs judged (first_judgement t (waiting c.new.result) gs judged c.new.ensures (c.in_ok-order.ensures (λ s. empty_state) c.in_ok-controllers.ensures))
    (empty_list judged.stops (is_none judged.stops c.is_empty.result (c.is_empty.ensures ∙ ap (λ (l : List Stop). length l == 0) c.as_slice.ensures) c.if-is_empty.true))

pub returns-then-is_empty-clause-accepted : goal.returns-then-is_empty-clause-accepted
returns-then-is_empty-clause-accepted c =
    let o = returns-then-is_empty-clause-order c in
    ((λ _. (o.events, o.run, o.kept)), (λ _. refl))

pub returns-then-is_empty-clause-controllers : goal.returns-then-is_empty-clause-controllers
returns-then-is_empty-clause-controllers c =
    let t = c.args.topology.now in
    let gs = c.args.segments.now in
    let judged = c.in_ok-order.field-0 in
    stand_at_ends t gs judged.controllers.items ((c.in_ok-order.ensures (λ s. empty_state) c.in_ok-controllers.ensures).stand
    (empty_list judged.stops (is_none judged.stops c.is_empty.result (c.is_empty.ensures ∙ ap (λ (l : List Stop). length l == 0) c.as_slice.ensures) c.if-is_empty.true)))

pub returns-else-is_empty-clause-stops : goal.returns-else-is_empty-clause-stops
returns-else-is_empty-clause-stops c =
    let t = c.args.topology.now in
    let gs = c.args.segments.now in
    let judged = c.in_ok-order.field-0 in
    stops_are t gs judged (first_judgement t (waiting c.new.result) gs judged c.new.ensures (c.in_ok-order.ensures (λ s. empty_state) c.in_ok-controllers.ensures))
    (is_some judged.stops c.is_empty.result (c.is_empty.ensures ∙ ap (λ (l : List Stop). length l == 0) c.as_slice.ensures) c.if-is_empty.false)

pub returns-else-is_empty-clause-accepted : goal.returns-else-is_empty-clause-accepted
returns-else-is_empty-clause-accepted c =
    let t = c.args.topology.now in
    let gs = c.args.segments.now in
    let judged = c.in_ok-order.field-0 in
    let some = is_some judged.stops c.is_empty.result (c.is_empty.ensures ∙ ap (λ (l : List Stop). length l == 0) c.as_slice.ensures) c.if-is_empty.false in
    let are = first_judgement t (waiting c.new.result) gs judged c.new.ensures (c.in_ok-order.ensures (λ s. empty_state) c.in_ok-controllers.ensures) in
    ((λ h. absurd (true≢false (sym h))), (λ come. absurd (no_run t gs judged are some come)))
