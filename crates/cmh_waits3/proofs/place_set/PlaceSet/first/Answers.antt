use Rattle.std.proofs.Common.{◌<◌, ◌^◌, get_or, rules}
use Rattle.cmh_waits3.proofs.Bits.{first_at, none_before_first}
use Rattle.cmh_waits3.proofs.place_set.PlaceSet.first.Goals as goal

pub returns-then-word-ne0 : goal.returns-then-word-ne0
returns-then-word-ne0 c =
    let fits : get_or c.args.self.words c.loop-at.at 0 < 2 ^ 64 = search rules in
    record {
      some = first_at c.args.self.words c.loop-at.at c.loop-at-test.true c.if-word-ne0.true fits;
      least = none_before_first c.args.self.words c.loop-at.at c.loop-at.invariant c.if-word-ne0.true fits;
    }
