use Rattle.std.proofs.Common.{◌≡◌, ℕ, ◌<◌, slice_index, slice_index_or}
use Rattle.cmh_waits.proofs.member_table.MemberTable.new.Given as goal

-- the members so far have their places
abbrev pub invariant-loop-place : goal.invariant-loop-place
invariant-loop-place l = (j : ℕ) → j < l.place → slice_index_or l.places.items (slice_index l.processes j) 255 ≡ j
