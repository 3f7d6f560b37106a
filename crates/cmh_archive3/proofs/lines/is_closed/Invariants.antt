use Rattle.std.proofs.Common.{◌≡◌, drop}
use Rattle.cmh_archive3.specs.Archive.{is_closed}
use Rattle.cmh_archive3.proofs.lines.is_closed.Given as goal

abbrev pub invariant-loop-last : goal.invariant-loop-last
invariant-loop-last l = is_closed l.newest l.epoch ≡ is_closed (drop l.last-index l.newest) l.epoch
