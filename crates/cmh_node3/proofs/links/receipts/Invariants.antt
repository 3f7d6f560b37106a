use Rattle.std.proofs.Common.{◌≡◌, ◌+◌, length, take}
use Rattle.cmh_model3.specs.Journals.{receipts_of}
use Rattle.cmh_wire3.specs.Mark.{mark_on}
use Rattle.cmh_wire3.specs.Wire.{spelled}
use Rattle.cmh_node3.proofs.links.receipts.Given as goal

-- what the entries so far got is counted
abbrev pub invariant-loop-entry : goal.invariant-loop-entry
invariant-loop-entry l = record {
  counted : l.count ≡ l.fn.before.got + length (receipts_of l.from (take l.entry-index l.entries));
  marked : l.mark ≡ mark_on l.fn.before.mark (spelled (receipts_of l.from (take l.entry-index l.entries)));
}
