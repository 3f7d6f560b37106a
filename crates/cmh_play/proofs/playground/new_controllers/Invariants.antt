use Rattle.std.proofs.Common.{◌≡◌, map, take}
use Rattle.cmh_controller.specs.Controller.{new_controller}
use Rattle.cmh_play.proofs.playground.new_controllers.Given as goal

abbrev pub invariant-loop-site : goal.invariant-loop-site
invariant-loop-site l = l.controllers.items ≡ map (new_controller l.topology) (take l.site-index l.site-items)
