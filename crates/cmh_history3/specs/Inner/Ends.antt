-- Where epochs end that are judged each by itself.
use Rattle.std.specs.Prelude.{◌≡◌, ℕ, IfNone, IfSome, List, Option, length}
use Rattle.std.specs.List.{AllZip}
use Rattle.cmh_topology3.specs.Topology.{Topology}
use Rattle.cmh_segment3.specs.declared.segment.Segment.{Segment}
use Rattle.cmh_history3.specs.Findings.{IsEpochFrom}
use Rattle.cmh_history3.specs.Follows.{IsEndOf}
use Rattle.cmh_history3.specs.declared.chain.End.{End}

-- The epoch of these segments ends there. Where no end is named, it is no epoch from its bases.
pub record EndsAs (t : Topology) (segments : List Segment) (found : Option End) : Type 0 where
  pub ends : IfSome found (λ (end : End). IsEndOf t segments end.controllers.items end.under_way)
  pub none : IfNone found (¬ IsEpochFrom t segments)

-- So many ends are left, one for each of these epochs.
pub record AreEndsOf (t : Topology) (epochs : List (List Segment)) (ends : List (Option End)) (left : ℕ) : Type 0 where
  pub each : AllZip (EndsAs t) epochs ends
  pub count : left ≡ length ends
