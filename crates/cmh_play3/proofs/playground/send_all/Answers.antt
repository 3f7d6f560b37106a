use Rattle.cmh_play3.specs.Links.{under_way}
use Rattle.std.proofs.Common.{◌∙◌}
use Rattle.cmh_play3.proofs.Moving.{sent_more}
use Rattle.cmh_play3.proofs.playground.send_all.Goals as goal

pub loop-to-preserved : goal.loop-to-preserved
loop-to-preserved c = record {
  sent = λ a b.
      sent_more c.args.sent.now c.loop-to.to-index c.loop-to-item.result c.loop-to-test.true c.loop-to-item.is c.args.from a b (under_way c.args.links.now a b) (under_way c.loop-to.links a b)
      (under_way c.send.new.self a b) (c.loop-to.invariant.sent a b) (c.in_ok-send.ensures.sent a b);
  cuts = λ a b. c.send.ensures.cuts a b ∙ c.loop-to.invariant.cuts a b;
}
