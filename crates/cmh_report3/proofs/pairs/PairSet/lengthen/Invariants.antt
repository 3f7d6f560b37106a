use Rattle.std.proofs.Common.{◌≡◌, length}
use Rattle.cmh_report3.specs.Inner.PairRows.{SamePairs, AreByNumber}
use Rattle.cmh_report3.proofs.pairs.PairSet.lengthen.Given as goal

abbrev pub invariant-loop : goal.invariant-loop
invariant-loop l = record {
  long : length l.self-inside.rows.items ≡ l.counter;
  same : SamePairs l.fn.self l.self-inside.rows.items;
  by_number : AreByNumber l.self-inside.rows.items;
}
