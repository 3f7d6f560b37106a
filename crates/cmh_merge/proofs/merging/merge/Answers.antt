use Rattle.std.proofs.Common.{IfOk, subst}
use Rattle.cmh_merge.specs.Merges.{IsMergeFrom}
use Rattle.cmh_merge.specs.Walks.{lefts_of, sites_of}
use Rattle.cmh_merge.proofs.merging.merge.Goals as goal

pub returns-clause-merged : goal.returns-clause-merged
returns-clause-merged g c =
    let W = g.W.Walk in
    subst (λ first. IfOk c.merge_from.result (λ merged. IsMergeFrom W.got first (sites_of c.args.walks.items) (lefts_of W.left c.args.walks.items) (lefts_of W.left merged.walks.items) merged.order.items))
    (λ i a b. c.new.ensures a b i) c.merge_from.ensures.merged
