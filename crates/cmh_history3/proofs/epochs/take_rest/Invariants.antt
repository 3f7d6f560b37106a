use Rattle.std.proofs.Common.{◌≡◌, take, drop, length}
use Rattle.std.specs.Prelude.{flat_map}
use Rattle.cmh_history3.specs.Epochs.{open_in}
use Rattle.cmh_history3.proofs.epochs.take_rest.Given as goal

-- it was taken out of the journals so far
abbrev pub invariant-loop-i : goal.invariant-loop-i
invariant-loop-i l = record {
  count : length l.journals.items ≡ length l.fn.journals.items;
  left : drop l.i l.journals.items ≡ drop l.i l.fn.journals.items;
  taken : l.segments.items ≡ flat_map (open_in l.epoch) (take l.i l.fn.journals.items);
}
