-- Epochs whose segments are those of one world.
use Rattle.std.specs.Prelude.{List, [], ◌∷◌, ⊤}
use Rattle.cmh_topology3.specs.Topology.{Topology}
use Rattle.cmh_segment3.specs.declared.segment.Segment.{Segment}
use Rattle.cmh_audit3.specs.Set.{IsSet}

-- the first one begins the world
abbrev pub BeginWorld : Topology → List (List Segment) → Type 0
BeginWorld t [] = ⊤
BeginWorld t (first ∷ more) = IsSet t first
