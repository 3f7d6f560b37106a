-- How many entries of each segment a run has.
use Rattle.std.specs.Prelude.{◌≡◌, ℕ, ◌<◌, ◌≤◌, List, length}
use Rattle.cmh_model3.specs.Entries.{WorldEvent}
use Rattle.cmh_topology3.specs.Topology.{Topology}
use Rattle.cmh_segment3.specs.declared.segment.Segment.{Segment}
use Rattle.cmh_audit3.specs.Stops.{before_stop}
use Rattle.cmh_audit3.specs.declared.stops.Stop.{Stop}
use Rattle.cmh_inputs.specs.Furthest.{Keeps}
use Rattle.cmh_files.specs.Readings.{file_at}
use Rattle.cmh_inputs.specs.BetweenReads.{IsFurthest, count_at, made_in, segment_at}

-- how many entries of a segment stand before the stop of its site
abbrev pub before_stops : List Stop → Segment → ℕ
before_stops stops segment = length (before_stop stops segment.header.site segment.entries)

-- these are fewer of one segment than were read first
pub record LacksSome (stops : List Stop) (before : List ℕ) (segments : List Segment) : Type 0 where
  pub place : ℕ
  pub inside : place < length segments
  pub fewer : before_stops stops (segment_at segments place) < count_at before place

-- so many of each, and of none fewer than were read first
pub record AreTaken (stops : List Stop) (before : List ℕ) (segments : List Segment) (taken : List ℕ) : Type 0 where
  pub each : length taken ≡ length segments
  pub taken_is : (i : ℕ) → i < length segments → count_at taken i ≡ before_stops stops (segment_at segments i)
  pub has : (i : ℕ) → i < length segments → count_at before i ≤ count_at taken i

-- so many entries of each segment are those of the furthest run
pub record TakesFurthest (t : Topology) (before : List ℕ) (segments : List Segment) (taken : List ℕ) : Type 0 where
  pub events : List WorldEvent
  pub furthest : IsFurthest t before segments events
  pub each : length taken ≡ length segments
  pub taken_is : (i : ℕ) → i < length segments
      → count_at taken i ≡ length (made_in events (segment_at segments i).header.site)

-- so many entries of each segment are kept of its file
pub record AreCutTo (segments : List Segment) (taken : List ℕ) (files kept : List (List ℕ)) : Type 0 where
  pub each : length kept ≡ length files
  pub keeps : (i : ℕ) → i < length files
      → Keeps (file_at files i) (segment_at segments i) (count_at taken i) (file_at kept i)
