use Rattle.std.proofs.Common.{ℕ}
use Rattle.cmh_links3.specs.Growing.{Grows}
use Rattle.cmh_links3.specs.Speaking.{HearsMany, IsPlacedSo}
use Rattle.cmh_links3.proofs.outgoing.Outgoing.listen.Given as goal

abbrev pub invariant-loop-taken : goal.invariant-loop-taken
invariant-loop-taken g l = record {
  count : ℕ;
  many : HearsMany count l.now l.fn.self l.fn.node l.self l.node;
  placed : IsPlacedSo l.fn.self l.fn.node l.self l.node;
  grows : Grows g.F.SegmentFile.told g.F.SegmentFile.has_failed l.fn.node l.node;
}
