use Rattle.std.proofs.Common.{◌≡◌, drop}
use Rattle.cmh_history3.specs.Between.{got_from}
use Rattle.cmh_history3.proofs.between.got_from.Given as goal

abbrev pub invariant-loop-link : goal.invariant-loop-link
invariant-loop-link l = got_from (drop l.link-index l.links) l.site ≡ got_from l.links l.site
