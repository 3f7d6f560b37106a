use Rattle.std.proofs.Common.{◌≡◌, ◌++◌, length}
use Rattle.cmh_c.specs.Opening.{words_of}
use Rattle.cmh_c.proofs.rows.rows_of.Given as goal

-- the words so far are those of the rows so far
abbrev pub invariant-loop-rest : goal.invariant-loop-rest
invariant-loop-rest l = words_of l.rows.items ++ l.rest ≡ l.words

abbrev pub decreases-loop-rest : goal.decreases-loop-rest
decreases-loop-rest l = length l.rest
