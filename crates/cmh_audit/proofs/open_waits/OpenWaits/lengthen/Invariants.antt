use Rattle.std.proofs.Common.{◌≡◌, length}
use Rattle.cmh_audit.specs.Inner.Turns.{SameOpen, AreByAsker}
use Rattle.cmh_audit.proofs.open_waits.OpenWaits.lengthen.Given as goal

abbrev pub invariant-loop : goal.invariant-loop
invariant-loop l = record {
  long : length l.self-inside.rows.items ≡ l.counter;
  same : SameOpen l.fn.self l.self-inside.rows.items;
  by_asker : AreByAsker l.self-inside.rows.items;
}
