use Rattle.std.proofs.Common.{◌≡◌}
use Rattle.cmh_links.proofs.draining.drop_frames.Given as goal

abbrev pub invariant-loop : goal.invariant-loop
invariant-loop g l = l.tap.to ≡ l.fn.tap.to
