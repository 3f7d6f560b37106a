use Rattle.std.proofs.Common.{◌++◌, drop, ap, arith, length-drop}
use Rattle.cmh_merge.specs.Queues.{waiting}
use Rattle.cmh_audit3.specs.Set.{has_site}
use Rattle.cmh_history3.specs.Between.{under_way}
use Rattle.cmh_history3.proofs.Queueing.{between_all, between_more, where_both}
use Rattle.cmh_history3.proofs.under_way.queues_of.Goals as goal

pub loop-from-init : goal.loop-from-init
loop-from-init c =
    let sites = c.args.sites.now in
    record { distinct = c.requires; sent = λ a b. ap (λ l. l ++ where_both (has_site sites a) (has_site sites b) (under_way c.args.segments.now a b)) (c.new-queues.ensures a b) }

pub loop-from-preserved : goal.loop-from-preserved
loop-from-preserved c =
    between_more (under_way c.args.segments.now) (waiting c.loop-from.queues) (waiting c.send_from.new.queues) c.args.sites.now c.loop-from.from-index c.from-item.result c.loop-from-test.true c.from-item.is c.loop-from.invariant
    c.in_ok-send_from.ensures

pub returns : goal.returns
returns c =
    let past = c.loop-from-test.false in
    let long = length-drop c.loop-from.from-index c.args.sites.now in
    between_all (under_way c.args.segments.now) (waiting c.loop-from.queues) c.args.sites.now (drop c.loop-from.from-index c.args.sites.now) (omega (arith, past, long)) c.loop-from.invariant
