use Rattle.std.proofs.Common.{length, arith}
use Rattle.cmh_console.proofs.LinesSeen.{no_feed-before}
use Rattle.cmh_console.proofs.device.feed_at.Goals as goal

pub returns-in-Some-clause-before : goal.returns-in-Some-clause-before
returns-in-Some-clause-before c = no_feed-before c.args.bytes.now c.in-Some.at (omega (arith, c.in-Some.ensures.0.high)) c.in-Some.ensures.0.before

pub returns-in-None-clause-before : goal.returns-in-None-clause-before
returns-in-None-clause-before c = no_feed-before c.args.bytes.now (length c.args.bytes.now) (omega arith) c.in-None.ensures
