-- An audit of some epochs of journals: what it means that it accepts.
use Rattle.std.specs.Prelude.{◌≡◌, ℕ, List, [], ◌∷◌, Option, None, Some}
use Rattle.std.specs.List.{AllZip}
use Rattle.cmh_topology3.specs.Topology.{Topology}
use Rattle.cmh_segment3.specs.declared.segment.Segment.{Segment}
use Rattle.cmh_files3.specs.Audits.{SaysTopology}
use Rattle.cmh_history3.specs.Journals.{IsPart}
use Rattle.cmh_history3.specs.Parts.{ArePartOfRun, BeginsWith, ended_with}
use Rattle.cmh_long_audit3.specs.Read.{AreRead, AreReadUntil}
use Rattle.cmh_long_audit3.specs.declared.part.EpochRange.{EpochRange}

-- the base of the first segment stands for the epoch
abbrev pub BeginWith : ℕ → List Segment → Type 0
BeginWith epoch [] = ⊥
BeginWith epoch (first ∷ later) = BeginsWith epoch first.header

-- the segments up to the last epoch, and the base of the next one
abbrev pub until : Option ℕ → List Segment → List Segment
until None segments = segments
until (Some last) segments = ended_with last segments

-- The files are those of segments that follow one another, the first of which begins with the first epoch; behind the last
-- epoch, they begin with the heads of segments. The journal has those of them that are in the range.
pub record IsPartOf (range : EpochRange) (files : List (List ℕ)) (journal : List Segment) : Type 0 where
  pub segments : List Segment
  pub read : AreReadUntil range.last files segments
  pub follow : IsPart segments
  pub begin : BeginWith range.first segments
  pub journal_is : journal ≡ until range.last segments

-- the files are those of the journal; where a range is named, it has what is in it
abbrev pub IsJournalIn : Option EpochRange → List (List ℕ) → List Segment → Type 0
IsJournalIn None files journal = AreRead files journal
IsJournalIn (Some range) files journal = IsPartOf range files journal

-- The topology file says a world, and the files are those of its journals, of which the epochs of the range come from one run
-- from the bases of the first.
pub record IsPartAccepted (topology : List ℕ) (range : EpochRange) (files : List (List (List ℕ))) : Type 0 where
  pub world : Topology
  pub says : SaysTopology topology world
  pub journals : List (List Segment)
  pub read : AllZip (IsPartOf range) files journals
  pub epochs : List (List Segment)
  pub one : ArePartOfRun world journals epochs
