use Rattle.cmh_report3.specs.Inner.PairRows.{ArePairsOf}
use Rattle.cmh_report3.proofs.pairs.PairSet.pairs.Given as goal

abbrev pub invariant-loop-index : goal.invariant-loop-index
invariant-loop-index l = ArePairsOf l.self-inside.rows.items l.index l.pairs.items
