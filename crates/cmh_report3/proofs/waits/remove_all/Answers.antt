use Rattle.std.proofs.Common.{◌∙◌, ◌==◌, ◌&&◌, not, sym, ap, take}
use Rattle.cmh_model3.specs.Lists.{in_list}
use Rattle.cmh_report3.specs.Inner.Pairs.{has_pair}
use Rattle.cmh_report3.proofs.Steps.{any_more, less_one}
use Rattle.cmh_report3.proofs.waits.remove_all.Goals as goal

pub loop-second-preserved : goal.loop-second-preserved
loop-second-preserved c = λ j k.
    let here = c.args.first == j in
    let this = c.second-item.result == k in
    let old = has_pair c.args.pairs.now j k in
    c.remove.ensures j k ∙ ap (λ b. not (here && this) && b) (c.loop-second.invariant j k)
    ∙ less_one here this (in_list (take c.loop-second.second-index c.args.seconds.now) k) old
    ∙ sym (ap (λ b. not (here && b) && old) (any_more c.args.seconds.now c.loop-second.second-index c.second-item.result c.loop-second-test.true c.second-item.is (λ q. q == k)))
