use Rattle.std.proofs.Common.{◌≡◌, ◌++◌, drop}
use Rattle.cmh_c.proofs.readers.sites_of.Given as goal

-- what is left completes them
abbrev pub invariant-loop-number : goal.invariant-loop-number
invariant-loop-number l = l.sites.items ++ drop l.number-index l.numbers ≡ l.numbers
