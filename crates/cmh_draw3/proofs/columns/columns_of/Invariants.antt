use Rattle.std.proofs.Common.{length, map, take}
use Rattle.cmh_topology3.specs.Topology.{sites_of}
use Rattle.cmh_audit3.specs.Journals.{journal_of}
use Rattle.cmh_draw.specs.Inner.Columns.{AreColumns}
use Rattle.cmh_draw3.proofs.columns.columns_of.Given as goal

abbrev pub invariant-loop-row : goal.invariant-loop-row
invariant-loop-row l = AreColumns (map (λ site. length (journal_of l.segments site)) (take l.row (sites_of l.topology))) l.all.items
