use Rattle.std.proofs.Common.{◌≡◌, ◌++◌, drop}
use Rattle.cmh_frames.specs.Rules.{requests}
use Rattle.cmh_controller.proofs.sending.requests.Given as goal

-- what is there and what is to come are all requests
abbrev pub invariant-loop-target : goal.invariant-loop-target
invariant-loop-target l = l.sent.items ++ requests l.topology l.site l.asker (drop l.target-index l.targets) ≡ requests l.topology l.site l.asker l.targets
