use Rattle.std.proofs.Common.{◌≡◌, map, ap, ◌∙◌, subst, arith}
use Rattle.std.specs.List.Sorted.{IsPermutation}
use Rattle.std.proofs.lemmas.List.{take_all}
use Rattle.cmh_frames.specs.Rows.{Row}
use Rattle.cmh_frames.proofs.Built.{in_order}
use Rattle.cmh_topology3.proofs.topology.sites_in_order.Goals as goal

pub returns : goal.returns
returns c =
    let whole : c.loop-row.sites.items ≡ map (λ (row : Row). row.0) c.args.given.now = c.loop-row.invariant ∙ ap (map (λ (row : Row). row.0)) (take_all c.loop-row.row-index c.args.given.now (omega arith)) in
    in_order _ _ (subst (λ xs. IsPermutation xs c.sort_unstable.new.self.items) whole c.sort_unstable.ensures.permutation) c.sort_unstable.ensures.sorted
