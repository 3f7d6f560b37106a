use Rattle.std.proofs.Common.{◌≡◌}
use Rattle.cmh_links.proofs.Writes.{Goes}
use Rattle.cmh_links.proofs.writing.run_writer.Given as goal

abbrev pub invariant-loop : goal.invariant-loop
invariant-loop g l = record {
  can : (goal.iterator-loop g).can_next l.iterator';
  ends : (goal.iterator-loop g).is_finite l.iterator';
  goes : Goes l.fn.edition l.fn.site (g.F.FrameSource.given l.fn.source) (g.F.FrameSource.given l.source) (g.O.Outgoing.taken l.fn.out) (g.O.Outgoing.taken l.out)
      (g.O.Outgoing.failures l.fn.out) (g.O.Outgoing.failures l.out);
  link : g.F.FrameSource.link_to l.source ≡ g.F.FrameSource.link_to l.fn.source;
}
