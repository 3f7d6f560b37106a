use Rattle.std.proofs.Common.{◌≡◌, [], ◌∷◌, ◌++◌, drop, length}
use Rattle.cmh_draw.specs.Each.{each_from}
use Rattle.cmh_draw3.specs.Marks as spec
use Rattle.cmh_topology3.specs.Topology.{sites_of, members_of}
use Rattle.cmh_draw.specs.declared.mark.Mark.TheVariants.{Site}
use Rattle.cmh_draw3.proofs.waiting.add_homes.Given as goal

abbrev pub invariant-loop-column : goal.invariant-loop-column
invariant-loop-column l =
    l.marks.items ++ each_from (λ column site. Site (record { site = site; place = column; length = length (members_of l.topology site) }) ∷ []) l.column (drop l.column (sites_of l.topology))
    ≡ l.fn.marks.items ++ spec.site_marks l.topology (λ site. length (members_of l.topology site))
