use Rattle.std.proofs.Common.{◌≡◌, ℕ, ◌-◌, false, ◌||◌, ◌==◌, length, drop}
use Rattle.std.specs.List.{list_any}
use Rattle.cmh_bits.specs.Bits.{has_number}
use Rattle.cmh_frames.specs.Inner.Twice.{has_process, repeats_among, repeats_process}
use Rattle.cmh_frames.proofs.rows.names_twice.Given as goal

-- the processes so far of this row and those of the later ones are marked, and each was named once
abbrev pub invariant-loop-behind : goal.invariant-loop-behind
invariant-loop-behind l = record {
  all : length l.named ≡ 1024;
  marked : (p : ℕ) → has_number l.named p
      ≡ (list_any (λ q. q == p) (drop (length l.row-inside.processes.items - l.behind) l.row-inside.processes.items) || has_process (drop (length l.rows - l.later) l.rows) p);
  once : repeats_among (drop (length l.rows - l.later) l.rows) (drop (length l.row-inside.processes.items - l.behind) l.row-inside.processes.items) ≡ false;
}

-- the processes of the later rows are marked, and each was named once
abbrev pub invariant-loop-later : goal.invariant-loop-later
invariant-loop-later l = record {
  all : length l.named ≡ 1024;
  marked : (p : ℕ) → has_number l.named p ≡ has_process (drop (length l.rows - l.later) l.rows) p;
  once : repeats_process (drop (length l.rows - l.later) l.rows) ≡ false;
}
