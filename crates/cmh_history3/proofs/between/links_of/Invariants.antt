use Rattle.std.proofs.Common.{◌≡◌, drop}
use Rattle.cmh_history3.specs.Between.{links_of}
use Rattle.cmh_history3.proofs.between.links_of.Given as goal

abbrev pub invariant-loop-segment : goal.invariant-loop-segment
invariant-loop-segment l = links_of (drop l.segment-index l.segments) l.site ≡ links_of l.segments l.site
