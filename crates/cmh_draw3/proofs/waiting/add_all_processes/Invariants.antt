use Rattle.std.proofs.Common.{◌≡◌, ◌++◌, drop}
use Rattle.cmh_draw.specs.Each.{each_from}
use Rattle.cmh_draw3.specs.Inner.Marks as inner
use Rattle.cmh_draw3.specs.Marks as spec
use Rattle.cmh_topology3.specs.Topology.{sites_of, members_of}
use Rattle.cmh_draw3.proofs.waiting.add_all_processes.Given as goal

abbrev pub invariant-loop-column : goal.invariant-loop-column
invariant-loop-column l =
    l.marks.items ++ each_from (λ column site. inner.member_marks l.declared column site (members_of l.topology site)) l.column (drop l.column (sites_of l.topology))
    ≡ l.fn.marks.items ++ spec.process_marks l.topology l.declared
