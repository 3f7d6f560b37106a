use Rattle.std.proofs.Common.{rules, arith}
use Rattle.cmh_shared.specs.Backlogs.{seen}
use Rattle.cmh_shared.specs.Links.{Released}
use Rattle.cmh_shared.proofs.Paired.{at_each_alike}
use Rattle.cmh_shared.proofs.links.release_each.Goals as goal

pub returns : goal.returns
returns g c = at_each_alike (λ a b. Released (seen a) (seen b)) c.args.links.now c.loop-link.links (search rules) (λ k d lt. c.loop-link.invariant.done k d (omega arith))
