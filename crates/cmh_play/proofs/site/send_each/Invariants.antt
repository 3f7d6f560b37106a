use Rattle.std.proofs.Common.{◌≡◌, ℕ, take}
use Rattle.cmh_play.specs.Links.{link_of, link_after}
use Rattle.cmh_play.proofs.site.send_each.Given as goal

abbrev pub invariant-loop-to : goal.invariant-loop-to
invariant-loop-to l = (a b : ℕ) → link_of l.links a b ≡ link_after l.initial.links l.from (take l.to-index l.sent) a b
