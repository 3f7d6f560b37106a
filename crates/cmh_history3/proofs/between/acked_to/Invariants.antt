use Rattle.std.proofs.Common.{◌≡◌, drop}
use Rattle.cmh_history3.specs.Between.{acked_to}
use Rattle.cmh_history3.proofs.between.acked_to.Given as goal

abbrev pub invariant-loop-link : goal.invariant-loop-link
invariant-loop-link l = acked_to (drop l.link-index l.links) l.site ≡ acked_to l.links l.site
