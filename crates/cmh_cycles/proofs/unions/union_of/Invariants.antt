use Rattle.cmh_cycles.proofs.RowLemmas.{IsUnion}
use Rattle.cmh_cycles.proofs.unions.union_of.Given as goal

abbrev pub invariant-loop-at : goal.invariant-loop-at
invariant-loop-at l = IsUnion l.table l.twins l.row l.union l.at
