use Rattle.std.proofs.Common.{◌≡◌, ◌∙◌, subst, arith}
use Rattle.std.specs.List.Sorted.{IsPermutation}
use Rattle.std.proofs.lemmas.List.{take_all}
use Rattle.cmh_frames.proofs.Built.{in_order}
use Rattle.cmh_topology3.proofs.topology.processes_in_order.Goals as goal

pub returns : goal.returns
returns c =
    let whole : c.loop-number.processes.items ≡ c.args.numbers.now = c.loop-number.invariant ∙ take_all c.loop-number.number-index c.args.numbers.now (omega arith) in
    in_order _ _ (subst (λ xs. IsPermutation xs c.sort_unstable.new.self.items) whole c.sort_unstable.ensures.permutation) c.sort_unstable.ensures.sorted
