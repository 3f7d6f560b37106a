use Rattle.std.proofs.Common.{◌≡◌, ◌++◌, drop}
use Rattle.cmh_draw.specs.Each.{each_from}
use Rattle.cmh_draw3.specs.Inner.Marks as inner
use Rattle.cmh_draw3.specs.Marks as spec
use Rattle.cmh_topology3.specs.Topology.{sites_of}
use Rattle.cmh_audit3.specs.Journals.{journal_of}
use Rattle.cmh_draw3.proofs.running.add_all_entries.Given as goal

abbrev pub invariant-loop-row : goal.invariant-loop-row
invariant-loop-row l =
    l.marks.items ++ each_from (λ row site. inner.entries_marks l.run.columns.now l.finding row site (journal_of l.run.segments.now site)) l.row (drop l.row (sites_of l.run.topology.now))
    ≡ l.fn.marks.items ++ spec.entry_marks l.run.topology.now l.run.segments.now l.run.columns.now l.finding
