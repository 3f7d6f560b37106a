-- Files of segments that were read twice, while their sites ran, and the runs between the two readings.
use Rattle.std.specs.Prelude.{◌≡◌, ℕ, ◌-◌, ◌<◌, ◌≤◌, List, [], length, take, slice_index_or}
use Rattle.cmh_files.specs.Readings.{file_at}
use Rattle.cmh_model3.specs.Entries.{WorldEvent}
use Rattle.cmh_model3.specs.Runs.{IsBeginningOf, IsRun, entries_of}
use Rattle.cmh_topology3.specs.Topology.{Topology, site_of}
use Rattle.cmh_segment3.specs.declared.entry.Entry.{Entry}
use Rattle.cmh_segment3.specs.declared.segment.Segment.{Segment}
use Rattle.cmh_segment3.specs.Base.{empty_base}
use Rattle.cmh_segment3.specs.Segment.{IsSegmentOf}
use Rattle.cmh_segment3.specs.Steps.{entries_from}
use Rattle.cmh_audit3.specs.Journals.{journal_of}
use Rattle.cmh_audit3.specs.Set.{IsSet}

-- ---- lists, place by place

abbrev pub count_at : List ℕ → ℕ → ℕ
count_at counts i = slice_index_or counts i 0

abbrev pub no_segment : Segment
no_segment = record {
  header = record { site = 0; world = []; epoch = 0; before = 0 };
  base = empty_base;
  entries = [];
}

abbrev pub segment_at : List Segment → ℕ → Segment
segment_at segments i = slice_index_or segments i no_segment

-- ---- readings

-- The file was that of a segment with so many entries when it was read first, and then that of this segment. It grew: what
-- was read first, but for a tail, begins what was read second.
pub record IsReadTwice (first second : List ℕ) (before : ℕ) (segment : Segment) : Type 0 where
  pub earlier : Segment
  pub first_tail : ℕ
  pub second_tail : ℕ
  pub first_is : IsSegmentOf earlier first_tail first
  pub second_is : IsSegmentOf segment second_tail second
  pub grew : IsBeginningOf (take (length first - first_tail) first) second
  pub before_is : before ≡ length earlier.entries

-- so were the files of all sites of the world
pub record AreReadTwice (t : Topology) (first second : List (List ℕ)) (before : List ℕ) (segments : List Segment) : Type 0 where
  pub firsts : length first ≡ length second
  pub counts : length before ≡ length second
  pub each : length segments ≡ length second
  pub read : (i : ℕ) → i < length second
      → IsReadTwice (file_at first i) (file_at second i) (count_at before i) (segment_at segments i)
  pub set : IsSet t segments

-- ---- runs between them

-- the entries that a site makes in a run
abbrev pub made_in : List WorldEvent → ℕ → List Entry
made_in events s = entries_from 0 (entries_of s events)

-- a run whose entries begin those of the segments
pub record IsWithin (t : Topology) (segments : List Segment) (events : List WorldEvent) : Type 0 where
  pub run : IsRun (site_of t) events
  pub begins : (s : ℕ) → IsBeginningOf (made_in events s) (journal_of segments s)

-- and which has of each site at least as many as were read first
pub record LiesBetween (t : Topology) (before : List ℕ) (segments : List Segment) (events : List WorldEvent) : Type 0 where
  pub within : IsWithin t segments events
  pub has : (i : ℕ) → i < length segments
      → count_at before i ≤ length (made_in events (segment_at segments i).header.site)

-- no run of beginnings of the segments has more entries of any site
pub record IsFurthest (t : Topology) (before : List ℕ) (segments : List Segment) (events : List WorldEvent) : Type 0 where
  pub between : LiesBetween t before segments events
  pub most : (others : List WorldEvent) → IsWithin t segments others
      → (s : ℕ) → length (made_in others s) ≤ length (made_in events s)

-- Some file is no segment's, or did not grow; or they are not those of all sites of the world; or no run has all that was
-- read first, and nothing that was not read second.
abbrev pub NoRunBetween : Topology → List (List ℕ) → List (List ℕ) → Type 0
NoRunBetween t first second =
    (before : List ℕ) (segments : List Segment) (events : List WorldEvent) → AreReadTwice t first second before segments
    → LiesBetween t before segments events → ⊥
