use Rattle.std.proofs.Common.{◌≡◌}
use Rattle.cmh_links.proofs.accepting.Accepter.accept_all.Given as goal

abbrev pub invariant-loop : goal.invariant-loop
invariant-loop g l = record {
  can : (goal.iterator-loop g).can_next l.iterator';
  ends : (goal.iterator-loop g).is_finite l.iterator';
  failures : g.L.Listen.failures l.self.listen ≡ 0;
}
