use Rattle.cmh_waits3.proofs.Placed.{ArePlacedBelow}
use Rattle.cmh_waits3.proofs.member_table.MemberTable.new.Given as goal

-- the members so far have their places
abbrev pub invariant-loop-place : goal.invariant-loop-place
invariant-loop-place l = ArePlacedBelow l.processes l.places.items l.place
