-- What the start of a probe computation adds to what a step sends.
use Rattle.std.specs.Prelude.{◌≡◌, ℕ, List, ◌++◌, Option}
use Rattle.std.specs.FinSet as set
use Rattle.cmh_frames.specs.declared.frame.Frame.{Frame}
use Rattle.cmh_frames.specs.Topology.{Topology}
use Rattle.cmh_frames.specs.Relation.{Relation, Numbers}
use Rattle.cmh_frames.specs.Rules.{Starts}

-- the frames that go out before and afterwards, where these waits stand and these processes were declared
pub record Begins (t : Topology) (s : ℕ) (waits : Relation) (known : Numbers) (process : ℕ)
    (before afterwards : List (ℕ × Frame)) (found : Option ℕ) : Type 0 where
  pub probes : List (ℕ × Frame)
  pub sent : afterwards ≡ before ++ probes
  pub starts : Starts t s (record {
    waits = waits;
    owed = set.empty;
    dependents = set.empty;
    declared = known;
  }) process probes found
