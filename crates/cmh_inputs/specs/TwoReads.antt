-- Why two readings of the files of running sites are enough.
use Rattle.std.specs.Prelude.{◌≡◌, ℕ, ◌<◌, List, length}
use Rattle.cmh_model3.specs.Entries.{WorldEvent}
use Rattle.cmh_topology3.specs.Topology.{Topology}
use Rattle.cmh_segment3.specs.declared.segment.Segment.{Segment}
use Rattle.cmh_segment3.specs.Segment.{IsSegmentOf}
use Rattle.cmh_audit3.specs.Journals.{ComeFromRun, journal_of}
use Rattle.cmh_audit3.specs.Set.{IsSet}
use Rattle.cmh_inputs.specs.Furthest.{AreKeptOf}
use Rattle.cmh_files.specs.Readings.{file_at}
use Rattle.cmh_inputs.specs.BetweenReads.{AreReadTwice, LiesBetween, segment_at}

-- the files are those of the segments of all sites of the world, which come from a run: so an audit accepts them
pub record AreOfARun (t : Topology) (files : List (List ℕ)) : Type 0 where
  pub segments : List Segment
  pub each : length segments ≡ length files
  pub read : (i : ℕ) → i < length files → (left : ℕ) × IsSegmentOf (segment_at segments i) left (file_at files i)
  pub set : IsSet t segments
  pub comes : ComeFromRun t (journal_of segments)

-- Where some run lies between the two readings, as that of each moment between them does, what is kept comes from a run.
abbrev pub TwoReadsAreEnough : Topology → Type 0
TwoReadsAreEnough t =
    (first second kept : List (List ℕ)) (before : List ℕ) (segments : List Segment) (events : List WorldEvent)
    → AreReadTwice t first second before segments → LiesBetween t before segments events → AreKeptOf t first second kept
    → AreOfARun t kept
