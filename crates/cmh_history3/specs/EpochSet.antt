-- What the segments of one epoch have to be.
use Rattle.std.specs.Prelude.{◌≡◌, ℕ, List}
use Rattle.std.specs.List.{All}
use Rattle.cmh_topology3.specs.Topology.{Topology}
use Rattle.cmh_segment3.specs.declared.segment.Segment.{Segment}
use Rattle.cmh_audit3.specs.Set.{AreOfWorld}

abbrev pub AreOfEpoch : ℕ → List Segment → Type 0
AreOfEpoch epoch segments = All (λ (g : Segment). g.header.epoch ≡ epoch) segments

-- each segment is of a site of this world, each site has just one, and all are of one epoch
pub record IsEpochSet (t : Topology) (segments : List Segment) : Type 0 where
  pub of_world : AreOfWorld t segments
  pub epoch : ℕ
  pub of_epoch : AreOfEpoch epoch segments
