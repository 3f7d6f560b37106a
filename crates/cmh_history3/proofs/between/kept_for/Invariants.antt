use Rattle.std.proofs.Common.{◌≡◌, drop}
use Rattle.cmh_history3.specs.Between.{kept_for}
use Rattle.cmh_history3.proofs.between.kept_for.Given as goal

abbrev pub invariant-loop-link : goal.invariant-loop-link
invariant-loop-link l = kept_for (drop l.link-index l.links) l.site ≡ kept_for l.links l.site
