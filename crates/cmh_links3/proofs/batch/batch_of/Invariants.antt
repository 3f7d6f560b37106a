use Rattle.std.proofs.Common.{◌≡◌, ◌≤◌, length, take}
use Rattle.cmh_wire3.specs.Wire.{spelled}
use Rattle.cmh_links3.proofs.batch.batch_of.Given as goal

abbrev pub invariant-loop-count : goal.invariant-loop-count
invariant-loop-count l = record {
  within : l.len ≤ length l.bytes;
  spell : take l.len l.bytes ≡ spelled l.messages.items;
  few : length l.messages.items ≤ l._count;
}
