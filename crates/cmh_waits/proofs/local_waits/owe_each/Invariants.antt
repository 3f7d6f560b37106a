use Rattle.std.proofs.Common.{◌≡◌, ◌&&◌, ◌||◌, ◌==◌, ℕ, take, length}
use Rattle.cmh_waits.specs.Rows.{bit_of, is_at_in}
use Rattle.cmh_waits.proofs.local_waits.owe_each.Given as goal

-- the targets so far owe
abbrev pub invariant-loop-target : goal.invariant-loop-target
invariant-loop-target l = record {
  len : length l.owed.items ≡ length l.fn.owed.items;
  bits : (a b : ℕ) → bit_of l.owed.items a b ≡ (((b == l.place) && is_at_in l.members (take l.target-index l.targets) a) || bit_of l.fn.owed.items a b);
}
