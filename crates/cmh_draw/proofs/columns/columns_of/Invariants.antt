use Rattle.std.proofs.Common.{length, map, take}
use Rattle.cmh_frames.specs.Topology.{sites_of}
use Rattle.cmh_audit.specs.Journals.{journal_of}
use Rattle.cmh_draw.specs.Inner.Columns.{AreColumns}
use Rattle.cmh_draw.proofs.columns.columns_of.Given as goal

abbrev pub invariant-loop-row : goal.invariant-loop-row
invariant-loop-row l = AreColumns (map (λ site. length (journal_of l.journals site)) (take l.row (sites_of l.topology))) l.all.items
