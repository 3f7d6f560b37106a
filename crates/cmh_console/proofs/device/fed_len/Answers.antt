use Rattle.std.proofs.Common.{length, subst, take_all, arith}
use Rattle.cmh_console.specs.Lines.{NoFeed}
use Rattle.cmh_console.proofs.LinesSeen.{no_feed-before}
use Rattle.cmh_console.proofs.device.fed_len.Goals as goal

pub returns-in-None-clause-none : goal.returns-in-None-clause-none
returns-in-None-clause-none c = λ zero.
    let bytes = c.args.bytes.now in
    subst NoFeed (take_all (length bytes) bytes (omega arith)) (no_feed-before bytes (length bytes) (omega arith) c.in-None.ensures)
