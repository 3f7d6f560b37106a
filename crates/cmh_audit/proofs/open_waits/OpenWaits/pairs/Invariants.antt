use Rattle.cmh_audit.specs.Inner.Turns.{ArePairsOf}
use Rattle.cmh_audit.proofs.open_waits.OpenWaits.pairs.Given as goal

abbrev pub invariant-loop-index : goal.invariant-loop-index
invariant-loop-index l = ArePairsOf l.self-inside.rows.items l.index l.pairs.items
