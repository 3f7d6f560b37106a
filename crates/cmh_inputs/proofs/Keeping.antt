-- From what two readings come to, to what is kept of them.
use Rattle.std.proofs.Common.{ℕ, List, subst, subst₂, inl, arith}
use Rattle.cmh_model3.specs.Entries.{WorldEvent}
use Rattle.cmh_topology3.specs.Topology.{Topology}
use Rattle.cmh_segment3.specs.declared.segment.Segment.{Segment}
use Rattle.cmh_inputs.specs.Furthest.{AreKeptOf, Keeps}
use Rattle.cmh_files.specs.Readings.{file_at}
use Rattle.cmh_inputs.specs.BetweenReads.{AreReadTwice, LiesBetween, NoRunBetween, segment_at}
use Rattle.cmh_inputs.specs.Inner.Taken.{AreCutTo, TakesFurthest}
use Rattle.cmh_inputs.proofs.Places.{same_counts, same_segments}

module _ (t : Topology) (first second : List (List ℕ)) where
  -- the files can't be read so
  pub none_read : ((before : List ℕ) (segments : List Segment) → AreReadTwice t first second before segments → ⊥) → NoRunBetween t first second
  none_read none before segments events read between = none before segments read

  -- they can, in one way, and no run lies between
  pub none_lies : (before : List ℕ) (segments : List Segment) → AreReadTwice t first second before segments → ((events : List WorldEvent) → LiesBetween t before segments events → ⊥) → NoRunBetween t first second
  none_lies before segments r none counts others events o between =
      let counts_are = same_counts first second counts before others segments o.counts r.counts o.each r.each o.read r.read in
      let segments_are = same_segments first second counts before others segments o.counts r.counts o.each r.each o.read r.read in
      none events (subst₂ (λ (b : List ℕ) (g : List Segment). LiesBetween t b g events) counts_are segments_are between)

  pub are_kept : (before : List ℕ) (segments : List Segment) (taken : List ℕ) (kept : List (List ℕ)) → AreReadTwice t first second before segments → TakesFurthest t before segments taken → AreCutTo segments taken second kept → AreKeptOf t first second kept
  are_kept before segments taken kept r takes cut = inl (record {
    before = before;
    segments = segments;
    events = takes.events;
    read = r;
    furthest = takes.furthest;
    each = cut.each;
    keeps = λ i l. subst (λ (n : ℕ). Keeps (file_at second i) (segment_at segments i) n (file_at kept i)) (takes.taken_is i (let e = r.each in omega (arith, e, l))) (cut.keeps i l);
  })
