-- From the stops of an audit to the furthest run between two readings.
use Rattle.std.proofs.Common.{◌≡◌, ℕ, ◌<◌, ◌≤◌, List, length, Option, None, Some, MatchOption, Vec, sym, ap, ◌∙◌, subst, arith}
use Rattle.std.specs.Global.{Global}
use Rattle.cmh_runs.proofs.Beginnings.{length-beginning}
use Rattle.cmh_model3.specs.Entries.{WorldEvent}
use Rattle.cmh_model3.specs.Runs.{IsBeginningOf, IsRun, entries_of}
use Rattle.cmh_topology3.specs.Topology.{Topology, site_of}
use Rattle.cmh_segment3.specs.declared.entry.Entry.{Entry}
use Rattle.cmh_segment3.specs.declared.segment.Segment.{Segment}
use Rattle.cmh_audit3.specs.Journals.{ComeFromRun, journal_of}
use Rattle.cmh_audit3.specs.Set.{IsSet}
use Rattle.cmh_audit3.specs.Stops.{before_stop}
use Rattle.cmh_audit3.specs.declared.stops.Stop.{Stop}
use Rattle.cmh_audit3.proofs.Ends.{each_journal}
use Rattle.cmh_audit3.proofs.Sets.{set_parts}
use Rattle.cmh_inputs.specs.BetweenReads.{IsWithin, LiesBetween, count_at, made_in, segment_at}
use Rattle.cmh_inputs.specs.Inner.Taken.{AreTaken, LacksSome, TakesFurthest}
use Rattle.cmh_inputs.proofs.Places.{all_at}
use Rattle.cmh_inputs.proofs.Sites.{before_begins, length-entries}

-- no run of beginnings of the segments has more than what stands before the stops
abbrev pub AreMost : Topology → List Segment → List Stop → Type 0
AreMost t segments stops =
    (events : List WorldEvent) → IsRun (site_of t) events → ((s : ℕ) → IsBeginningOf (made_in events s) (journal_of segments s))
    → (s : ℕ) → length (entries_of s events) ≤ length (before_stop stops s (journal_of segments s))

-- where there are no stops
pub none_most : (t : Topology) (segments : List Segment) → (events : List WorldEvent) → IsRun (site_of t) events
    → ((s : ℕ) → IsBeginningOf (made_in events s) (journal_of segments s)) → (s : ℕ) → length (entries_of s events) ≤ length (journal_of segments s)
none_most t segments events run begins s =
    let few = length-beginning (made_in events s) (journal_of segments s) (begins s) in
    let same = length-entries 0 (entries_of s events) in
    omega (arith, few, same)

module _ (t : Topology) (before : List ℕ) (segments : List Segment) (stops : List Stop) (set : IsSet t segments) (most : AreMost t segments stops) where
  -- what holds of each site and its journal holds of the segment at a place
  at_place : (P : ℕ → List Entry → Type 0) → ((s : ℕ) → P s (journal_of segments s)) → (i : ℕ) → i < length segments → P (segment_at segments i).header.site (segment_at segments i).entries
  at_place P each i l = all_at (λ (g : Segment). P g.header.site g.entries) segments (each_journal P segments (set_parts t segments set).once (λ s _. each s)) i l

  few_made : (others : List WorldEvent) → IsWithin t segments others → (s : ℕ) → length (made_in others s) ≤ length (before_stop stops s (journal_of segments s))
  few_made others w s =
      let few = most others w.run w.begins s in
      let same = length-entries 0 (entries_of s others) in
      omega (arith, few, same)

  -- where too few stand before a stop, no run lies between
  pub none_between : LacksSome stops before segments → (events : List WorldEvent) → LiesBetween t before segments events → ⊥
  none_between lacks events b =
      let few = at_place (λ s es. length (made_in events s) ≤ length (before_stop stops s es)) (few_made events b.within) lacks.place lacks.inside in
      let has = b.has lacks.place lacks.inside in
      let fewer = lacks.fewer in
      absurd (omega (arith, few, has, fewer))

  pub takes_furthest : ComeFromRun t (λ s. before_stop stops s (journal_of segments s)) → (taken : List ℕ) → AreTaken stops before segments taken → TakesFurthest t before segments taken
  takes_furthest comes taken are = record {
    events = events;
    furthest = record {
      between = record {
        within = record { run = comes.1; begins = λ s. subst (λ es. IsBeginningOf es (journal_of segments s)) (sym (comes.2 s)) (before_begins stops s (journal_of segments s)) };
        has = λ i l. let a = are.has i l in let e = taken_is i l in omega (arith, a, e);
      };
      most = λ others w s. let few = few_made others w s in let same = ap length (comes.2 s) in omega (arith, few, same);
    };
    each = are.each;
    taken_is = taken_is;
  }
    where
      events : List WorldEvent
      events = comes.0

      taken_is : (i : ℕ) → i < length segments → count_at taken i ≡ length (made_in comes.0 (segment_at segments i).header.site)
      taken_is i l = are.taken_is i l ∙ sym (at_place (λ s es. length (made_in comes.0 s) ≡ length (before_stop stops s es)) (λ s. ap length (comes.2 s)) i l)

  -- what is known of the entries before the stops, of the run
  pub found_between : ComeFromRun t (λ s. before_stop stops s (journal_of segments s)) → (o : Option (Vec ℕ Global))
      → MatchOption o (LacksSome stops before segments) (λ (taken : Vec ℕ Global). AreTaken stops before segments taken.items)
      → MatchOption o ((events : List WorldEvent) → LiesBetween t before segments events → ⊥) (λ (taken : Vec ℕ Global). TakesFurthest t before segments taken.items)
  found_between comes None lacks = none_between lacks
  found_between comes (Some taken) are = takes_furthest comes taken.items are
