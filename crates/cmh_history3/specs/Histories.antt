-- Journals whose epochs are one run.
use Rattle.std.specs.Prelude.{◌≡◌, ℕ, List, ◌∷◌}
use Rattle.std.specs.List.{AllByRecursion}
use Rattle.cmh_model3.specs.Entries.{WorldEvent}
use Rattle.cmh_model3.specs.Runs.{IsRun}
use Rattle.cmh_runs.specs.Runs.{ComesFrom}
use Rattle.cmh_topology3.specs.Topology.{Topology, site_of}
use Rattle.cmh_segment3.specs.Base.{IsBase}
use Rattle.cmh_segment3.specs.declared.segment.Segment.{Segment}
use Rattle.cmh_audit3.specs.Set.{IsSet}
use Rattle.cmh_history3.specs.Chains.{epoch_of, steps_in}
use Rattle.cmh_history3.specs.Findings.{IsApart, IsRefused}
use Rattle.cmh_history3.specs.Epochs.{AreEpochs}
use Rattle.cmh_history3.specs.declared.verdict.HistoryVerdict.{HistoryVerdict}
use Rattle.cmh_history3.specs.declared.verdict.HistoryVerdict.TheVariants.{Accepted, Refused, Apart}

-- the bases of a journal are such as can be read
abbrev pub AreReadBases : List Segment → Type 0
AreReadBases journal = AllByRecursion (λ (g : Segment). IsBase g.base) journal

-- There is one run in which each site takes just its steps of all epochs, with its turn before each later one. It begins
-- where nothing has happened yet.
pub record AreOfOneRun (t : Topology) (journals : List (List Segment)) : Type 0 where
  pub first : List Segment
  pub more : List (List Segment)
  pub epochs : AreEpochs journals (first ∷ more)
  pub begin : IsSet t first
  pub events : List WorldEvent
  pub run : IsRun (site_of t) events
  pub comes : ComesFrom (steps_in t first more) events

-- Of the epochs of these journals the first ones are one run, and this one behind them is no epoch from its bases.
pub record IsRefusedIn (t : Topology) (journals : List (List Segment)) (epoch : ℕ) : Type 0 where
  pub epochs : List (List Segment)
  pub are : AreEpochs journals epochs
  pub place : ℕ
  pub refused : IsRefused t epochs place
  pub named : epoch ≡ epoch_of refused.segments

-- The first ones are one run, and the bases of this one behind them do not say where that ends.
pub record IsApartIn (t : Topology) (journals : List (List Segment)) (epoch : ℕ) : Type 0 where
  pub epochs : List (List Segment)
  pub are : AreEpochs journals epochs
  pub place : ℕ
  pub apart : IsApart t epochs place
  pub named : epoch ≡ epoch_of apart.next

-- what the verdict says of the journals
abbrev pub FindsIn : Topology → List (List Segment) → HistoryVerdict → Type 0
FindsIn t journals Accepted = AreOfOneRun t journals
FindsIn t journals (Refused epoch) = IsRefusedIn t journals epoch
FindsIn t journals (Apart epoch) = IsApartIn t journals epoch
