use Rattle.std.proofs.Common.{take}
use Rattle.cmh_play3.specs.Inner.Fresh.{AreFresh}
use Rattle.cmh_play3.proofs.playground.new_controllers.Given as goal

abbrev pub invariant-loop-site : goal.invariant-loop-site
invariant-loop-site l = AreFresh l.topology (take l.site-index l.site-items) l.controllers.items
