-- What is kept of files that were read twice.
use Rattle.std.specs.Prelude.{◌≡◌, ℕ, ◌<◌, ◌⊎◌, List, length, take}
use Rattle.cmh_model3.specs.Entries.{WorldEvent}
use Rattle.cmh_topology3.specs.Topology.{Topology}
use Rattle.cmh_segment3.specs.declared.segment.Segment.{Segment}
use Rattle.cmh_segment3.specs.Segment.{segment_spelling}
use Rattle.cmh_files.specs.Readings.{file_at}
use Rattle.cmh_inputs.specs.BetweenReads.{AreReadTwice, IsFurthest, NoRunBetween, made_in, segment_at}

-- So many entries of a segment: all of its file, with a tail, where these are all entries; else what spells just these.
pub record Keeps (file : List ℕ) (segment : Segment) (count : ℕ) (bytes : List ℕ) : Type 0 where
  pub all : count ≡ length segment.entries → bytes ≡ file
  pub some : count < length segment.entries
      → bytes ≡ segment_spelling segment.header segment.base (take count segment.entries)

-- the files keep of what was read second the entries of the furthest run between the two readings
pub record AreOfFurthest (t : Topology) (first second kept : List (List ℕ)) : Type 0 where
  pub before : List ℕ
  pub segments : List Segment
  pub events : List WorldEvent
  pub read : AreReadTwice t first second before segments
  pub furthest : IsFurthest t before segments events
  pub each : length kept ≡ length second
  pub keeps : (i : ℕ) → i < length second
      → Keeps (file_at second i) (segment_at segments i) (length (made_in events (segment_at segments i).header.site))
      (file_at kept i)

-- What is kept of files that were all read twice: the furthest run between the readings. Where there is none, what was
-- read first.
abbrev pub AreKeptOf : Topology → List (List ℕ) → List (List ℕ) → List (List ℕ) → Type 0
AreKeptOf t first second kept = AreOfFurthest t first second kept ⊎ (NoRunBetween t first second × (kept ≡ first))
