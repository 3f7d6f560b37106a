use Rattle.std.proofs.Common.{drop, refl, arith, length-drop}
use Rattle.cmh_merge.specs.Queues.{waiting}
use Rattle.cmh_history3.specs.Between.{under_way}
use Rattle.cmh_history3.proofs.Queueing.{from_all, from_more}
use Rattle.cmh_history3.proofs.under_way.send_from.Goals as goal

pub loop-to-init : goal.loop-to-init
loop-to-init c = record { distinct = c.requires; sent = λ a b. refl }

pub loop-to-preserved : goal.loop-to-preserved
loop-to-preserved c =
    from_more (under_way c.args.segments.now) (waiting c.args.queues.now) (waiting c.loop-to.queues) (waiting c.send_all.new.queues) c.args.from c.args.sites.now c.loop-to.to-index c.to-item.result c.under_way.result.now
    c.loop-to-test.true c.to-item.is c.under_way.ensures c.loop-to.invariant c.in_ok-send_all.ensures

pub returns : goal.returns
returns c =
    let past = c.loop-to-test.false in
    let long = length-drop c.loop-to.to-index c.args.sites.now in
    from_all (under_way c.args.segments.now) (waiting c.args.queues.now) (waiting c.loop-to.queues) c.args.from c.args.sites.now (drop c.loop-to.to-index c.args.sites.now) (omega (arith, past, long)) c.loop-to.invariant
