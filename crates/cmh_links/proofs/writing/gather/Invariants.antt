use Rattle.std.proofs.Common.{◌≡◌, ◌-◌}
use Rattle.arrayvec.specs.ArrayVec.{array_vec_len}
use Rattle.cmh_links.specs.Writing.{Gathers}
use Rattle.cmh_links.proofs.writing.gather.Given as goal

abbrev pub invariant-loop-source : goal.invariant-loop-source
invariant-loop-source g l = record {
  gathers : Gathers l.fn.first (g.F.FrameSource.given l.fn.source) (g.F.FrameSource.given l.source) l.bytes.items;
  link : g.F.FrameSource.link_to l.source ≡ g.F.FrameSource.link_to l.fn.source;
}

abbrev pub decreases-loop-source : goal.decreases-loop-source
decreases-loop-source g l = 4096 - array_vec_len l.bytes
