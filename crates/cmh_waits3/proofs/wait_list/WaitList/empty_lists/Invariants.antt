use Rattle.std.proofs.Common.{◌≡◌, [], replicate}
use Rattle.cmh_waits3.proofs.wait_list.WaitList.empty_lists.Given as goal

-- as many lists as turns
abbrev pub invariant-loop : goal.invariant-loop
invariant-loop l = l.lists.items ≡ replicate l.counter []
