use Rattle.std.proofs.Common.{◌≡◌}
use Rattle.cmh_links.proofs.draining.drain.Given as goal

abbrev pub invariant-loop : goal.invariant-loop
invariant-loop g l = record {
  can : (goal.iterator-loop g).can_next l.iterator';
  ends : (goal.iterator-loop g).is_finite l.iterator';
  link : l.tap.to ≡ l.fn.tap.to;
}
