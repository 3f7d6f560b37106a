use Rattle.std.proofs.Common.{◌≡◌, [], ◌∷◌, ◌++◌, drop}
use Rattle.cmh_draw.specs.Each.{each_from}
use Rattle.cmh_draw3.specs.Marks as spec
use Rattle.cmh_topology3.specs.Topology.{sites_of}
use Rattle.cmh_draw.specs.declared.mark.Mark.TheVariants.{Site}
use Rattle.cmh_draw3.proofs.running.add_sites.Given as goal

abbrev pub invariant-loop-row : goal.invariant-loop-row
invariant-loop-row l =
    l.marks.items ++ each_from (λ row site. Site (record { site = site; place = row; length = l.width }) ∷ []) l.row (drop l.row (sites_of l.topology))
    ≡ l.fn.marks.items ++ spec.site_marks l.topology (λ site. l.width)
