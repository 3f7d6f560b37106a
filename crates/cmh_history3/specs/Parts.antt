-- The epochs of a world from one of them on, or up to one of them.
use Rattle.std.specs.Prelude.{◌≡◌, ◌⊎◌, ◌<◌, ℕ, List, [], ◌∷◌, if◌then◌else◌}
use Rattle.std.specs.Bool.{nat_lt}
use Rattle.cmh_topology3.specs.Topology.{Topology}
use Rattle.cmh_segment3.specs.declared.head.Header.{Header}
use Rattle.cmh_segment3.specs.declared.segment.Segment.{Segment}
use Rattle.cmh_history3.specs.Chains.{AreOneRun}
use Rattle.cmh_history3.specs.Epochs.{AreEpochs}

-- The base of a segment stands for the epoch: the segment is of it, or it is the next one, and the site jumped over it.
abbrev pub BeginsWith : ℕ → Header → Type 0
BeginsWith epoch header = (header.epoch ≡ epoch) ⊎ ((epoch < header.epoch) × (header.before < epoch))

-- a segment without its entries
abbrev pub bare : Segment → Segment
bare g = record { header = g.header; base = g.base; entries = [] }

-- the segments of a journal up to an epoch, and the base of the next one
abbrev pub ended_with : ℕ → List Segment → List Segment
ended_with epoch [] = []
ended_with epoch (g ∷ later) = if nat_lt epoch g.header.epoch then bare g ∷ [] else g ∷ ended_with epoch later

-- These are the epochs of the journals, and there is one run from the bases of the first, in which each site takes just its
-- steps of all of them, with its turn before each later one.
pub record ArePartOfRun (t : Topology) (journals epochs : List (List Segment)) : Type 0 where
  pub epochs_are : AreEpochs journals epochs
  pub one : AreOneRun t epochs
